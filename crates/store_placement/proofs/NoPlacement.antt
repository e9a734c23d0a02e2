-- Where constraints are refused, there is no placement.
use Rattle.store_placement.proofs.Common.{◌≡◌, ◌≢◌, ℕ, ◌+◌, ◌<◌, ◌≤◌, true, false, cond, not, ◌&&◌, List, Option, Some, None, length, map, eqb, ltb, refl, sym}
use Rattle.store_placement.proofs.Common.{ap, subst, ◌∙◌, inl, inr, arith, eqb-true, eqb-false, eq-eqb, ltb-true, ltb-false, false_from_ne_true, and_parts}
use Rattle.store_placement.proofs.Common.{not-true, or_cases, length-map, Pair, PlaceError, Demands, AreWithin, fixed_at, same_pair, below, forced, all_forced}
use Rattle.store_placement.proofs.Common.{same_address, stands_in, stands_beside, stands_twice, clashes, in_wrong_half, is_wrong, is_true_target}
use Rattle.store_placement.proofs.Common.{is_false_target, is_pair_of, are_split, split_apart, collide, Refuses, is_taken, is_free_low, free_lows, open_pairs}
use Rattle.store_placement.proofs.Common.{IsPlacement, HasPlacement}
use Rattle.store_placement.specs.declared.refusal.PlaceError.TheVariants as errors
use Rattle.store_placement.proofs.Among.{Among, All-among, from_any, among-map, among-below, among_below, among_filter}
use Rattle.store_placement.proofs.Apart.{Apart, Apart-map, length-le_from_among}
use Rattle.store_placement.proofs.ClearPairs.{AreClear, of_statements, stands_cases, stands_yes, stands_no, pair_is}
use Rattle.store_placement.proofs.ForcedBy.{Own, Above, Under, forced_cases}
use Rattle.store_placement.proofs.OpenPairs.{IsOpen, AreDisjoint, Apart-open, open_from, open_unforced}

-- what a pair says of its targets' addresses
paired : {d : Demands} {address : ℕ → ℕ} → IsPlacement d address → (p : Pair) → Among p d.pairs → address p.yes ≡ address p.no + 256
paired {d} {address} is p among = All-among (λ q. address q.yes ≡ address q.no + 256) d.pairs p is.keeps_pairs among

low : {d : Demands} {address : ℕ → ℕ} → AreWithin d.fixed d.pairs → IsPlacement d address → (p : Pair) → Among p d.pairs → address p.no < 256
low within is p among = let e = paired is p among in let h = is.in_store p.yes (of_statements within p among).0 in omega arith

-- a true target is at 256 or above, and a false target below, so no statement is both
no_both : {d : Demands} {address : ℕ → ℕ} → AreWithin d.fixed d.pairs → IsPlacement d address → (p q : Pair) → Among p d.pairs → Among q d.pairs → p.yes ≡ q.no → ⊥
no_both {d} {address} within is p q in_p in_q same =
    let e = paired is p in_p in let h = low within is q in_q in let same_at = ap address same in absurd (omega arith)

same_from_pairs : {d : Demands} {address : ℕ → ℕ} → AreWithin d.fixed d.pairs → IsPlacement d address → (s : ℕ) (p q : Pair) → Among p d.pairs → Among q d.pairs → stands_in s p ≡ true → stands_in s q ≡ true → p ≡ q
same_from_pairs {d} {address} within is s p q in_p in_q stands_p stands_q =
    let of_p = of_statements within p in_p in
    let of_q = of_statements within q in_q in
    let e = paired is p in_p in
    let f = paired is q in_q in
    elim (stands_cases s p stands_p) [
      | inl high ↦ elim (stands_cases s q stands_q) [
        | inl high_too ↦
            let same : p.yes ≡ q.yes = high ∙ sym high_too in
            let same_at = ap address same in
            pair_is p q same (is.apart p.no q.no of_p.1 of_q.1 (omega arith))
        | inr low_too ↦ absurd (no_both within is p q in_p in_q (high ∙ sym low_too))
      ]
      | inr low_one ↦ elim (stands_cases s q stands_q) [
        | inl high_too ↦ absurd (no_both within is q p in_q in_p (high_too ∙ sym low_one))
        | inr low_too ↦
            let same : p.no ≡ q.no = low_one ∙ sym low_too in
            let same_at = ap address same in
            pair_is p q (is.apart p.yes q.yes of_p.0 of_q.0 (omega arith)) same
      ]
    ]

not_same_pair : (p q : Pair) → p ≡ q → same_pair p q ≡ false → ⊥
not_same_pair p q same h =
    let both : same_pair p q ≡ true = rw (eq-eqb p.yes q.yes (ap (λ (r : Pair). r.yes) same), eq-eqb p.no q.no (ap (λ (r : Pair). r.no) same)) refl in
    let wrong : true ≡ false = sym both ∙ h in cc

pub no_clash : {d : Demands} {address : ℕ → ℕ} → AreWithin d.fixed d.pairs → IsPlacement d address → (s : ℕ) → clashes d.pairs s ≡ true → ⊥
unfolding clashes stands_twice
no_clash {d} {address} within is s h = elim (or_cases (stands_twice d.pairs s) (is_true_target d.pairs s && is_false_target d.pairs s) h) [
  | inl twice ↦
      let p = from_any (λ r. stands_in s r && stands_beside d.pairs s r) d.pairs twice in
      let stands_p = (and_parts (stands_in s p.0) (stands_beside d.pairs s p.0) p.2).0 in
      let q = from_any (λ r. stands_in s r && not (same_pair p.0 r)) d.pairs (and_parts (stands_in s p.0) (stands_beside d.pairs s p.0) p.2).1 in
      let stands_q = (and_parts (stands_in s q.0) (not (same_pair p.0 q.0)) q.2).0 in
      let differ = not-true (same_pair p.0 q.0) (and_parts (stands_in s q.0) (not (same_pair p.0 q.0)) q.2).1 in
      not_same_pair p.0 q.0 (same_from_pairs within is s p.0 q.0 p.1 q.1 stands_p stands_q) differ
  | inr both ↦
      let p = from_any (λ r. eqb r.yes s) d.pairs (and_parts (is_true_target d.pairs s) (is_false_target d.pairs s) both).0 in
      let q = from_any (λ r. eqb r.no s) d.pairs (and_parts (is_true_target d.pairs s) (is_false_target d.pairs s) both).1 in
      no_both within is p.0 q.0 p.1 q.1 (eqb-true p.0.yes s p.2 ∙ sym (eqb-true q.0.no s q.2))
]

no_wrong_half : {d : Demands} {address : ℕ → ℕ} → AreWithin d.fixed d.pairs → IsPlacement d address → (s : ℕ) → in_wrong_half d.fixed d.pairs s ≡ true → ⊥
unfolding in_wrong_half
no_wrong_half {d} {address} within is s h =
    elim (fixed_at d.fixed s) as (λ o. fixed_at d.fixed s ≡ o → is_wrong d.pairs s o ≡ true → ⊥) [
      | None ↦ λ e wrong. cc
      | Some a ↦ λ e. let kept = is.keeps_fixed s a e in elim (ltb a 256) as (λ b. ltb a 256 ≡ b → cond b (is_true_target d.pairs s) (is_false_target d.pairs s) ≡ true → ⊥) [
        | true ↦ λ less target.
            let p = from_any (λ r. eqb r.yes s) d.pairs target in
            let same_at = ap address (eqb-true p.0.yes s p.2) in
            let high = paired is p.0 p.1 in
            let small = ltb-true a 256 less in
            absurd (omega arith)
        | false ↦ λ more target.
            let p = from_any (λ r. eqb r.no s) d.pairs target in
            let same_at = ap address (eqb-true p.0.no s p.2) in
            let small = low within is p.0 p.1 in
            let large = ltb-false a 256 more in
            absurd (omega arith)
      ] refl
    ] refl h

-- a placement keeps forced addresses
pub keeps_forced : {d : Demands} {address : ℕ → ℕ} → IsPlacement d address → (s a : ℕ) → forced d.fixed d.pairs s ≡ Some a → address s ≡ a
keeps_forced {d} {address} is s a e = elim (forced_cases d.fixed d.pairs s a e) [
  | Own own ↦ is.keeps_fixed s a own
  | Above p b unfixed among same fixed sum ↦
      let at_no = is.keeps_fixed p.no b fixed in let pair = paired is p among in let at_s = ap address same in omega arith
  | Under p b unfixed among same fixed sum ↦
      let at_yes = is.keeps_fixed p.yes b fixed in let pair = paired is p among in let at_s = ap address same in omega arith
]

both_some : (x y : Option ℕ) → same_address x y ≡ true → (a : ℕ) × (x ≡ Some a) × (y ≡ Some a)
both_some None y h = cc
both_some (Some a) None h = cc
both_some (Some a) (Some b) h = (a, refl, ap Some (sym (eqb-true a b h)))

split_some : (x y : Option ℕ) → are_split x y ≡ true → (a b : ℕ) × (x ≡ Some a) × (y ≡ Some b) × (a ≢ b + 256)
split_some None y h = cc
split_some (Some a) None h = cc
split_some (Some a) (Some b) h = (a, b, refl, refl, eqb-false a (b + 256) (not-true (eqb a (b + 256)) h))

no_collision : {d : Demands} {address : ℕ → ℕ} → IsPlacement d address → (s t : ℕ) → s < t → t < length d.fixed → collide d.fixed d.pairs s t ≡ true → ⊥
unfolding collide split_apart
no_collision {d} {address} is s t less inside h = elim (or_cases (same_address (forced d.fixed d.pairs s) (forced d.fixed d.pairs t)) (split_apart d.fixed d.pairs s t) h) [
  | inl same ↦
      let r = both_some (forced d.fixed d.pairs s) (forced d.fixed d.pairs t) same in
      let e = is.apart s t (omega arith) inside (keeps_forced is s r.0 r.1 ∙ sym (keeps_forced is t r.0 r.2)) in
      omega arith
  | inr apart ↦
      let p = from_any (λ r. is_pair_of s t r && are_split (fixed_at d.fixed r.yes) (fixed_at d.fixed r.no)) d.pairs apart in
      let r = split_some (fixed_at d.fixed p.0.yes) (fixed_at d.fixed p.0.no) (and_parts (is_pair_of s t p.0) (are_split (fixed_at d.fixed p.0.yes) (fixed_at d.fixed p.0.no)) p.2).1 in
      let at_yes = is.keeps_fixed p.0.yes r.0 r.2 in
      let at_no = is.keeps_fixed p.0.no r.1 r.3 in
      let pair = paired is p.0 p.1 in
      r.4 (omega arith)
]

-- what is taken by forced addresses
pub taken_from : (fixed : List (Option ℕ)) (pairs : List Pair) (a : ℕ) → is_taken (all_forced fixed pairs) a ≡ true → (s : ℕ) × (s < length fixed) × (forced fixed pairs s ≡ Some a)
unfolding is_taken all_forced
taken_from fixed pairs a h =
    let o = from_any (λ x. same_address x (Some a)) (map (forced fixed pairs) (below (length fixed))) h in
    let s = among-map (forced fixed pairs) (below (length fixed)) o.0 o.1 in
    let r = both_some o.0 (Some a) o.2 in
    (s.0, among-below (length fixed) s.0 s.1, sym s.2 ∙ (r.1 ∙ sym r.2))

-- where a placement puts the targets of a remaining pair nothing is forced
free_at : {d : Demands} {address : ℕ → ℕ} → AreClear d.fixed d.pairs → IsPlacement d address → (p : Pair) → IsOpen d.fixed d.pairs p → (s : ℕ) → stands_in s p ≡ true → s < length d.fixed → is_taken (all_forced d.fixed d.pairs) (address s) ≡ false
free_at {d} {address} c is p left s stands inside =
    false_from_ne_true (is_taken (all_forced d.fixed d.pairs) (address s)) (λ taken.
    let t = taken_from d.fixed d.pairs (address s) taken in
    let same : t.0 ≡ s = is.apart t.0 s t.1 inside (keeps_forced is t.0 (address s) t.2) in
    let wrong : None ≡ Some (address s) = sym (open_unforced c p left s stands) ∙ (ap (forced d.fixed d.pairs) (sym same) ∙ t.2) in
    cc)

room : {d : Demands} {address : ℕ → ℕ} → AreClear d.fixed d.pairs → IsPlacement d address → length (open_pairs d.fixed d.pairs) ≤ length (free_lows (all_forced d.fixed d.pairs))
unfolding free_lows
room {d} {address} c is =
    let pairs = open_pairs d.fixed d.pairs in
    let lows = free_lows (all_forced d.fixed d.pairs) in
    let low_of : Pair → ℕ = λ p. address p.no in
    let apart : Apart ◌≢◌ (map low_of pairs) = Apart-map AreDisjoint ◌≢◌ low_of pairs (λ p q in_p in_q disjoint same.
    let of_p = of_statements c.within p (open_from d.fixed d.pairs p in_p).among in
    let of_q = of_statements c.within q (open_from d.fixed d.pairs q in_q).among in
    disjoint.no_no (is.apart p.no q.no of_p.1 of_q.1 same)) (Apart-open c) in
    let inside : (q : ℕ) → Among q (map low_of pairs) → Among q lows = λ q among.
    let r = among-map low_of pairs q among in
    let left = open_from d.fixed d.pairs r.0 r.1 in
    let of = of_statements c.within r.0 left.among in
    let at_no : is_taken (all_forced d.fixed d.pairs) (address r.0.no) ≡ false = free_at c is r.0 left r.0.no (stands_no r.0) of.1 in
    let at_yes : is_taken (all_forced d.fixed d.pairs) (address r.0.no + 256) ≡ false =
    ap (is_taken (all_forced d.fixed d.pairs)) (sym (paired is r.0 left.among)) ∙ free_at c is r.0 left r.0.yes (stands_yes r.0) of.0 in
    let passes : is_free_low (all_forced d.fixed d.pairs) (address r.0.no) ≡ true = rw (at_no, at_yes) refl in
    let P : ℕ → Type 0 = λ a. Among a lows in
    subst P (sym r.2) (among_filter (is_free_low (all_forced d.fixed d.pairs)) (below 256) (address r.0.no) (among_below 256 (address r.0.no) (low c.within is r.0 left.among)) passes) in
    let at_most = length-le_from_among (map low_of pairs) lows apart inside in
    simp length-map at at_most

-- a refusal holds of no constraints that have a placement
pub refused : (d : Demands) → AreWithin d.fixed d.pairs → (e : PlaceError) → Refuses d e → HasPlacement d → ⊥
refused d within (errors.PairClash s) first has = no_clash within has.1 s first.passes
refused d within (errors.FixedWrongHalf s) r has = no_wrong_half within has.1 s r.1.passes
refused d within (errors.FixedClash s t) r has = no_collision has.1 s t r.2.first.ordered r.2.first.inside r.2.first.passes
refused d within errors.NoRoom r has =
    let most = room (record { within = within; clear = r.0 }) has.1 in let few = r.3 in absurd (omega arith)
