-- The chosen placement is a placement, where nothing is refused.
use Rattle.store_placement.proofs.Common.{◌≡◌, ◌≢◌, ℕ, ◌+◌, ◌-◌, ◌<◌, Bool, true, false, cond, not, ◌&&◌, List, Option, Some, None, length, map, eqb, refl, sym}
use Rattle.store_placement.proofs.Common.{ap, subst, ◌∙◌, inl, inr, arith, is_none, list_any, eqb-true, eq-eqb, cases_lt, cases_eq, and_parts, not-true}
use Rattle.store_placement.proofs.Common.{or_parts, or_right, get_or_past, Pair, Demands, fixed_at, below, NeverTwo, forced, all_forced, same_address}
use Rattle.store_placement.proofs.Common.{stands_in, is_pair_of, are_split, split_apart, collide, is_taken, is_free, is_free_low, free_lows, free_addresses}
use Rattle.store_placement.proofs.Common.{open_pairs, is_single, singles, before_singles, IsChosen, IsPlacement}
use Rattle.std.specs.List.{filter}
use Rattle.store_placement.proofs.Among.{Among, All-among, All-from_among, any_at, from_any, none_of, right_false, among_map, among-take, among-filter, among_filter, among-below, among_below}
use Rattle.store_placement.proofs.Apart.{Apart, Apart-below, Apart-weaker, Apart-filter, Apart-take, same_from_map}
use Rattle.store_placement.proofs.ClearPairs.{AreClear, AreHalved, of_statements, stands_cases, one_role, fixed_high, fixed_low}
use Rattle.store_placement.proofs.ForcedBy.{IsForcedBy, Own, Above, Under, forced_cases, forced_own, own_none, forced_above, forced_under, partner_none}
use Rattle.store_placement.proofs.OpenPairs.{among_open}

-- nothing is refused before the remaining pairs are counted
pub record AreApart (fixed : List (Option ℕ)) (pairs : List Pair) : Type 0 where
  pub halved : AreHalved fixed pairs
  pub apart : NeverTwo (collide fixed pairs) (length fixed)

distinct : (p : ℕ → Bool) (n : ℕ) → Apart ◌≢◌ (filter p (below n))
distinct p n = Apart-weaker ◌<◌ ◌≢◌ (filter p (below n)) (λ x y less same. omega arith) (Apart-filter ◌<◌ p (below n) (Apart-below n))

-- where a remaining pair stands
record IsLow (d : Demands) (a : ℕ) : Type 0 where
  inside : a < 256
  free : is_taken (all_forced d.fixed d.pairs) a ≡ false
  partner_free : is_taken (all_forced d.fixed d.pairs) (a + 256) ≡ false

low_of : {d : Demands} {address : ℕ → ℕ} → IsChosen d address → (p : Pair) → Among p (open_pairs d.fixed d.pairs) → IsLow d (address p.no)
unfolding free_lows
low_of {d} {address} chosen p among =
    let pairs = open_pairs d.fixed d.pairs in
    let taken = all_forced d.fixed d.pairs in
    let P : List ℕ → Type 0 = λ xs. Among (address p.no) xs in
    let among_lows : Among (address p.no) (free_lows taken) =
    among-take (length pairs) (free_lows taken) (address p.no) (subst P chosen.lows (among_map (λ q. address q.no) pairs p among)) in
    let r = among-filter (is_free_low taken) (below 256) (address p.no) among_lows in
    record {
      inside = among-below 256 (address p.no) r.0;
      free = not-true (is_taken taken (address p.no)) (and_parts (is_free taken (address p.no)) (is_free taken (address p.no + 256)) r.1).0;
      partner_free = not-true (is_taken taken (address p.no + 256)) (and_parts (is_free taken (address p.no)) (is_free taken (address p.no + 256)) r.1).1;
    }

high_of : {d : Demands} {address : ℕ → ℕ} → IsChosen d address → (p : Pair) → Among p (open_pairs d.fixed d.pairs) → address p.yes ≡ address p.no + 256
high_of {d} {address} chosen p among = All-among (λ q. address q.yes ≡ address q.no + 256) (open_pairs d.fixed d.pairs) p chosen.highs among

one_at_low : {d : Demands} {address : ℕ → ℕ} → IsChosen d address → (p q : Pair) → Among p (open_pairs d.fixed d.pairs) → Among q (open_pairs d.fixed d.pairs) → address p.no ≡ address q.no → p ≡ q
unfolding free_lows
one_at_low {d} {address} chosen p q in_p in_q same =
    let pairs = open_pairs d.fixed d.pairs in
    let taken = all_forced d.fixed d.pairs in
    let P : List ℕ → Type 0 = λ xs. Apart ◌≢◌ xs in
    same_from_map (λ r. address r.no) pairs (subst P (sym chosen.lows) (Apart-take ◌≢◌ (length pairs) (free_lows taken) (distinct (is_free_low taken) 256))) p q in_p in_q same

-- where a single stands
single_at : {d : Demands} {address : ℕ → ℕ} → IsChosen d address → (s : ℕ) → s < length d.fixed → is_single d.fixed d.pairs s ≡ true → (address s < 512) × (is_taken (before_singles d address) (address s) ≡ false)
unfolding free_addresses singles
single_at {d} {address} chosen s inside is =
    let last = singles d.fixed d.pairs in
    let taken = before_singles d address in
    let P : List ℕ → Type 0 = λ xs. Among (address s) xs in
    let among_last : Among s last = among_filter (is_single d.fixed d.pairs) (below (length d.fixed)) s (among_below (length d.fixed) s inside) is in
    let among_free : Among (address s) (free_addresses taken) =
    among-take (length last) (free_addresses taken) (address s) (subst P chosen.rest (among_map address last s among_last)) in
    let r = among-filter (is_free taken) (below 512) (address s) among_free in
    (among-below 512 (address s) r.0, not-true (is_taken taken (address s)) r.1)

one_single_at : {d : Demands} {address : ℕ → ℕ} → IsChosen d address → (s t : ℕ) → s < length d.fixed → t < length d.fixed → is_single d.fixed d.pairs s ≡ true → is_single d.fixed d.pairs t ≡ true → address s ≡ address t → s ≡ t
unfolding free_addresses singles
one_single_at {d} {address} chosen s t in_s in_t is_s is_t same =
    let last = singles d.fixed d.pairs in
    let taken = before_singles d address in
    let P : List ℕ → Type 0 = λ xs. Apart ◌≢◌ xs in
    let among_s : Among s last = among_filter (is_single d.fixed d.pairs) (below (length d.fixed)) s (among_below (length d.fixed) s in_s) is_s in
    let among_t : Among t last = among_filter (is_single d.fixed d.pairs) (below (length d.fixed)) t (among_below (length d.fixed) t in_t) is_t in
    same_from_map address last (subst P (sym chosen.rest) (Apart-take ◌≢◌ (length last) (free_addresses taken) (distinct (is_free taken) 512))) s t among_s among_t same

-- a statement that is no single stands before the singles
other_at : (d : Demands) (address : ℕ → ℕ) (t : ℕ) → t < length d.fixed → is_single d.fixed d.pairs t ≡ false → is_taken (before_singles d address) (address t) ≡ true
unfolding is_taken before_singles
other_at d address t inside is =
    let place : ℕ → Option ℕ = λ s. cond (is_single d.fixed d.pairs s) None (Some (address s)) in
    let here : place t ≡ Some (address t) = rw is refl in
    any_at (λ o. same_address o (Some (address t))) (map place (below (length d.fixed))) (place t) (among_map place (below (length d.fixed)) t (among_below (length d.fixed) t inside))
    (ap (λ o. same_address o (Some (address t))) here ∙ eq-eqb (address t) (address t) refl)

single_other : {d : Demands} {address : ℕ → ℕ} → IsChosen d address → (s t : ℕ) → s < length d.fixed → t < length d.fixed → is_single d.fixed d.pairs s ≡ true → is_single d.fixed d.pairs t ≡ false → address s ≡ address t → ⊥
single_other {d} {address} chosen s t in_s in_t is_s is_t same =
    let wrong : true ≡ false = sym (other_at d address t in_t is_t) ∙ (ap (is_taken (before_singles d address)) (sym same) ∙ (single_at chosen s in_s is_s).1) in cc

-- a forced address is taken
forced_taken : (d : Demands) (s a : ℕ) → s < length d.fixed → forced d.fixed d.pairs s ≡ Some a → is_taken (all_forced d.fixed d.pairs) a ≡ true
unfolding is_taken all_forced
forced_taken d s a inside is =
    any_at (λ o. same_address o (Some a)) (map (forced d.fixed d.pairs) (below (length d.fixed))) (forced d.fixed d.pairs s) (among_map (forced d.fixed d.pairs) (below (length d.fixed)) s (among_below (length d.fixed) s inside))
    (ap (λ o. same_address o (Some a)) is ∙ eq-eqb a a refl)

-- what places a statement
pub data IsPlacedBy (d : Demands) (s : ℕ) : Type 0 where
  ByForce : (a : ℕ) → forced d.fixed d.pairs s ≡ Some a → IsPlacedBy d s
  ByLow : (p : Pair) → Among p (open_pairs d.fixed d.pairs) → p.no ≡ s → IsPlacedBy d s
  ByHigh : (p : Pair) → Among p (open_pairs d.fixed d.pairs) → p.yes ≡ s → IsPlacedBy d s

stands_from : (fixed : List (Option ℕ)) (pairs : List Pair) (s : ℕ) → fixed_at fixed s ≡ None → is_single fixed pairs s ≡ false → (p : Pair) × Among p pairs × (stands_in s p ≡ true)
unfolding is_single
stands_from fixed pairs s unfixed is =
    from_any (stands_in s) pairs (elim (list_any (stands_in s) pairs) as (λ b. (is_none (fixed_at fixed s) && not b) ≡ false → b ≡ true) [
      | true ↦ λ h. refl
      | false ↦ λ h. let wrong : true ≡ false = ap (λ o. is_none o && true) (sym unfixed) ∙ h in cc
    ] is)

pub placed_by : {d : Demands} → AreClear d.fixed d.pairs → (s : ℕ) → is_single d.fixed d.pairs s ≡ false → IsPlacedBy d s
placed_by {d} c s is =
    elim (forced d.fixed d.pairs s) as (λ o. forced d.fixed d.pairs s ≡ o → IsPlacedBy d s) [
      | Some a ↦ λ e. ByForce a e
      | None ↦ λ e.
          let p = stands_from d.fixed d.pairs s (own_none d.fixed d.pairs s e) is in
          let unfixed = partner_none c s p.0 p.1 p.2 e in
          let among = among_open c p.0 (record { among = p.1; yes_free = unfixed.0; no_free = unfixed.1 }) in
          elim (stands_cases s p.0 p.2) [ inl high ↦ ByHigh p.0 among high | inr low ↦ ByLow p.0 among low ]
    ] refl

forced_apart : {d : Demands} → AreApart d.fixed d.pairs → (s t a : ℕ) → s < length d.fixed → t < length d.fixed → forced d.fixed d.pairs s ≡ Some a → forced d.fixed d.pairs t ≡ Some a → s ≡ t
unfolding collide
forced_apart {d} h s t a in_s in_t is_s is_t =
    let together : (u v : ℕ) → u < v → v < length d.fixed → forced d.fixed d.pairs u ≡ Some a → forced d.fixed d.pairs v ≡ Some a → ⊥ = λ u v less inside is_u is_v.
    let one : same_address (forced d.fixed d.pairs u) (forced d.fixed d.pairs v) ≡ true = rw (is_u, is_v) (eq-eqb a a refl) in
    let none = (or_parts (same_address (forced d.fixed d.pairs u) (forced d.fixed d.pairs v)) (split_apart d.fixed d.pairs u v) (h.apart u v less inside)).0 in
    let wrong : true ≡ false = sym one ∙ none in cc in
    elim (cases_eq s t) [
      | inl same ↦ same
      | inr differ ↦ elim (cases_lt s t) [
        | inl less ↦ absurd (together s t less in_t is_s is_t)
        | inr more ↦ absurd (together t s (omega arith) in_s is_t is_s)
      ]
    ]

-- what is forced does not stand where a remaining pair stands
not_forced : (d : Demands) (s a b : ℕ) → s < length d.fixed → forced d.fixed d.pairs s ≡ Some a → is_taken (all_forced d.fixed d.pairs) b ≡ false → a ≡ b → ⊥
not_forced d s a b inside is free same =
    let wrong : true ≡ false = sym (forced_taken d s a inside is) ∙ (ap (is_taken (all_forced d.fixed d.pairs)) same ∙ free) in cc

-- two statements that are no singles
others_apart : {d : Demands} {address : ℕ → ℕ} → AreApart d.fixed d.pairs → IsChosen d address → (s t : ℕ) → s < length d.fixed → t < length d.fixed → IsPlacedBy d s → IsPlacedBy d t → address s ≡ address t → s ≡ t
others_apart {d} {address} h chosen s t in_s in_t (ByForce a is_s) (ByForce b is_t) same =
    let at_s = chosen.keeps_forced s a in_s is_s in
    let at_t = chosen.keeps_forced t b in_t is_t in
    forced_apart h s t a in_s in_t is_s (is_t ∙ ap Some (sym at_t ∙ (sym same ∙ at_s)))
others_apart {d} {address} h chosen s t in_s in_t (ByForce a is_s) (ByLow q among low) same =
    absurd (not_forced d s a (address q.no) in_s is_s (low_of chosen q among).free (sym (chosen.keeps_forced s a in_s is_s) ∙ (same ∙ ap address (sym low))))
others_apart {d} {address} h chosen s t in_s in_t (ByForce a is_s) (ByHigh q among high) same =
    absurd (not_forced d s a (address q.no + 256) in_s is_s (low_of chosen q among).partner_free (sym (chosen.keeps_forced s a in_s is_s) ∙ (same ∙ (ap address (sym high) ∙ high_of chosen q among))))
others_apart {d} {address} h chosen s t in_s in_t (ByLow p among low) (ByForce b is_t) same =
    absurd (not_forced d t b (address p.no) in_t is_t (low_of chosen p among).free (sym (chosen.keeps_forced t b in_t is_t) ∙ (sym same ∙ ap address (sym low))))
others_apart {d} {address} h chosen s t in_s in_t (ByHigh p among high) (ByForce b is_t) same =
    absurd (not_forced d t b (address p.no + 256) in_t is_t (low_of chosen p among).partner_free (sym (chosen.keeps_forced t b in_t is_t) ∙ (sym same ∙ (ap address (sym high) ∙ high_of chosen p among))))
others_apart {d} {address} h chosen s t in_s in_t (ByLow p in_p is_s) (ByLow q in_q is_t) same =
    sym is_s ∙ (ap (λ (r : Pair). r.no) (one_at_low chosen p q in_p in_q (ap address is_s ∙ (same ∙ ap address (sym is_t)))) ∙ is_t)
others_apart {d} {address} h chosen s t in_s in_t (ByLow p in_p is_s) (ByHigh q in_q is_t) same =
    let low = (low_of chosen p in_p).inside in let high = high_of chosen q in_q in
    let at_s = ap address is_s in let at_t = ap address is_t in absurd (omega arith)
others_apart {d} {address} h chosen s t in_s in_t (ByHigh p in_p is_s) (ByLow q in_q is_t) same =
    let low = (low_of chosen q in_q).inside in let high = high_of chosen p in_p in
    let at_s = ap address is_s in let at_t = ap address is_t in absurd (omega arith)
others_apart {d} {address} h chosen s t in_s in_t (ByHigh p in_p is_s) (ByHigh q in_q is_t) same =
    let high_p = high_of chosen p in_p in let high_q = high_of chosen q in_q in
    let at_s = ap address is_s in let at_t = ap address is_t in
    sym is_s ∙ (ap (λ (r : Pair). r.yes) (one_at_low chosen p q in_p in_q (omega arith)) ∙ is_t)

all_apart : {d : Demands} {address : ℕ → ℕ} → AreApart d.fixed d.pairs → IsChosen d address → (s t : ℕ) → s < length d.fixed → t < length d.fixed → address s ≡ address t → s ≡ t
all_apart {d} {address} h chosen s t in_s in_t same =
    elim (is_single d.fixed d.pairs s) as (λ b. is_single d.fixed d.pairs s ≡ b → s ≡ t) [
      | true ↦ λ is_s. elim (is_single d.fixed d.pairs t) as (λ b. is_single d.fixed d.pairs t ≡ b → s ≡ t) [
        | true ↦ λ is_t. one_single_at chosen s t in_s in_t is_s is_t same
        | false ↦ λ is_t. absurd (single_other chosen s t in_s in_t is_s is_t same)
      ] refl
      | false ↦ λ is_s. elim (is_single d.fixed d.pairs t) as (λ b. is_single d.fixed d.pairs t ≡ b → s ≡ t) [
        | true ↦ λ is_t. absurd (single_other chosen t s in_t in_s is_t is_s (sym same))
        | false ↦ λ is_t. others_apart h chosen s t in_s in_t (placed_by h.halved.clear s is_s) (placed_by h.halved.clear t is_t) same
      ] refl
    ] refl

forced_inside : {d : Demands} → AreHalved d.fixed d.pairs → (s a : ℕ) → IsForcedBy d.fixed d.pairs s a → a < 512
forced_inside h s a (Own is) = h.clear.within.addresses s a is
forced_inside h s a (Above p b unfixed among same is sum) = let low = fixed_low h p b among is in omega arith
forced_inside h s a (Under p b unfixed among same is sum) = let inside = h.clear.within.addresses p.yes b is in omega arith

placed_inside : {d : Demands} {address : ℕ → ℕ} → AreHalved d.fixed d.pairs → IsChosen d address → (s : ℕ) → s < length d.fixed → IsPlacedBy d s → address s < 512
placed_inside {d} {address} h chosen s inside (ByForce a is) =
    let e = chosen.keeps_forced s a inside is in let in_store = forced_inside h s a (forced_cases d.fixed d.pairs s a is) in omega arith
placed_inside {d} {address} h chosen s inside (ByLow p among low) = let r = (low_of chosen p among).inside in let at_s = ap address low in omega arith
placed_inside {d} {address} h chosen s inside (ByHigh p among high) =
    let r = (low_of chosen p among).inside in let e = high_of chosen p among in let at_s = ap address high in omega arith

all_inside : {d : Demands} {address : ℕ → ℕ} → AreHalved d.fixed d.pairs → IsChosen d address → (s : ℕ) → s < length d.fixed → address s < 512
all_inside {d} {address} h chosen s inside =
    elim (is_single d.fixed d.pairs s) as (λ b. is_single d.fixed d.pairs s ≡ b → address s < 512) [
      | true ↦ λ is. (single_at chosen s inside is).0
      | false ↦ λ is. placed_inside h chosen s inside (placed_by h.clear s is)
    ] refl

pub fixed_below : (fixed : List (Option ℕ)) (s a : ℕ) → fixed_at fixed s ≡ Some a → s < length fixed
fixed_below fixed s a is = elim (cases_lt s (length fixed)) [
  | inl less ↦ less
  | inr more ↦ let wrong : None ≡ Some a = sym (get_or_past fixed s None more) ∙ is in cc
]

not_split : {d : Demands} → AreApart d.fixed d.pairs → (p : Pair) → Among p d.pairs → are_split (fixed_at d.fixed p.yes) (fixed_at d.fixed p.no) ≡ false
unfolding collide split_apart
not_split {d} h p among =
    let of = of_statements h.halved.clear.within p among in
    let roles = one_role h.halved.clear p p among among in
    let split : Pair → Bool = λ r. are_split (fixed_at d.fixed r.yes) (fixed_at d.fixed r.no) in
    elim (cases_lt p.yes p.no) [
      | inl less ↦
          let none = (or_parts (same_address (forced d.fixed d.pairs p.yes) (forced d.fixed d.pairs p.no)) (split_apart d.fixed d.pairs p.yes p.no) (h.apart p.yes p.no less of.1)).1 in
          let pair : is_pair_of p.yes p.no p ≡ true = rw (eq-eqb p.yes p.yes refl, eq-eqb p.no p.no refl) refl in
          right_false (is_pair_of p.yes p.no p) (split p) (none_of (λ r. is_pair_of p.yes p.no r && split r) d.pairs p none among) pair
      | inr more ↦
          let none = (or_parts (same_address (forced d.fixed d.pairs p.no) (forced d.fixed d.pairs p.yes)) (split_apart d.fixed d.pairs p.no p.yes) (h.apart p.no p.yes (omega (arith, roles)) of.0)).1 in
          let pair : is_pair_of p.no p.yes p ≡ true =
          or_right (eqb p.yes p.no && eqb p.no p.yes) (eqb p.yes p.yes && eqb p.no p.no) (rw (eq-eqb p.yes p.yes refl, eq-eqb p.no p.no refl) refl) in
          right_false (is_pair_of p.no p.yes p) (split p) (none_of (λ r. is_pair_of p.no p.yes r && split r) d.pairs p none among) pair
    ]

split_not : (a b : ℕ) → are_split (Some a) (Some b) ≡ false → a ≡ b + 256
split_not a b h = eqb-true a (b + 256) (elim (eqb a (b + 256)) as (λ t. not t ≡ false → t ≡ true) [ true ↦ λ _. refl | false ↦ λ e. cc ] h)

pair_kept : {d : Demands} {address : ℕ → ℕ} → AreApart d.fixed d.pairs → IsChosen d address → (p : Pair) → Among p d.pairs → address p.yes ≡ address p.no + 256
pair_kept {d} {address} h chosen p among =
    let c = h.halved.clear in
    let of = of_statements c.within p among in
    elim (fixed_at d.fixed p.yes) as (λ o. fixed_at d.fixed p.yes ≡ o → address p.yes ≡ address p.no + 256) [
      | None ↦ λ yes_free. elim (fixed_at d.fixed p.no) as (λ o. fixed_at d.fixed p.no ≡ o → address p.yes ≡ address p.no + 256) [
        | None ↦ λ no_free. high_of chosen p (among_open c p (record { among = among; yes_free = yes_free; no_free = no_free }))
        | Some b ↦ λ is_no.
            let at_yes = chosen.keeps_forced p.yes (b + 256) of.0 (forced_above c p b among yes_free is_no) in
            let at_no = chosen.keeps_forced p.no b of.1 (forced_own d.fixed d.pairs p.no b is_no) in
            omega arith
      ] refl
      | Some a ↦ λ is_yes. elim (fixed_at d.fixed p.no) as (λ o. fixed_at d.fixed p.no ≡ o → address p.yes ≡ address p.no + 256) [
        | None ↦ λ no_free.
            let at_yes = chosen.keeps_forced p.yes a of.0 (forced_own d.fixed d.pairs p.yes a is_yes) in
            let at_no = chosen.keeps_forced p.no (a - 256) of.1 (forced_under c p a among no_free is_yes) in
            let high = fixed_high h.halved p a among is_yes in
            omega arith
        | Some b ↦ λ is_no.
            let at_yes = chosen.keeps_forced p.yes a of.0 (forced_own d.fixed d.pairs p.yes a is_yes) in
            let at_no = chosen.keeps_forced p.no b of.1 (forced_own d.fixed d.pairs p.no b is_no) in
            let sum = split_not a b (ap (λ o. are_split o (Some b)) (sym is_yes) ∙ (ap (are_split (fixed_at d.fixed p.yes)) (sym is_no) ∙ not_split h p among)) in
            omega arith
      ] refl
    ] refl

pub chosen_places : {d : Demands} {address : ℕ → ℕ} → AreApart d.fixed d.pairs → IsChosen d address → IsPlacement d address
chosen_places {d} {address} h chosen = record {
  in_store = λ s inside. all_inside h.halved chosen s inside;
  apart = λ s t in_s in_t same. all_apart h chosen s t in_s in_t same;
  keeps_fixed = λ s a is. chosen.keeps_forced s a (fixed_below d.fixed s a is) (forced_own d.fixed d.pairs s a is);
  keeps_pairs = All-from_among (λ p. address p.yes ≡ address p.no + 256) d.pairs (λ p among. pair_kept h chosen p among);
}
