-- What the steps of placing leave is the chosen placement, and there is only one.
use Rattle.store_placement.proofs.Common.{◌≡◌, ℕ, ◌+◌, ◌<◌, ◌≤◌, Bool, true, false, cond, not, ◌&&◌, List, [], ◌∷◌, Option, Some, None, length, map, take}
use Rattle.store_placement.proofs.Common.{get_or, eqb, refl, sym, ap, subst, ◌∙◌, inl, inr, arith, is_none, option_or, list_any, All, count_by, eq-eqb, or_left}
use Rattle.store_placement.proofs.Common.{or_right, get_or-map-range_with_len, fill_by_all, Pair, Demands, AreWithin, fixed_at, below, Never, NeverTwo, forced}
use Rattle.store_placement.proofs.Common.{all_forced, stands_in, clashes, in_wrong_half, collide, is_free_low, free_lows, free_addresses, open_pairs, is_single}
use Rattle.store_placement.proofs.Common.{singles, before_singles, IsChosen, IsChosenList, pair_address, with_pairs, with_free}
use Rattle.std.specs.List.{filter}
use Rattle.store_placement.proofs.Among.{Among, All-among, All-from_among, none_of, among-below, among_below, among-filter, among_filter}
use Rattle.store_placement.proofs.Below.{length-map_below}
use Rattle.store_placement.proofs.ForcedLemmas.{length-all_forced, at_all_forced}
use Rattle.store_placement.proofs.ClearPairs.{AreClear, of_statements, stands_yes, stands_no, one_role}
use Rattle.store_placement.proofs.ForcedBy.{forced_none}
use Rattle.store_placement.proofs.OpenPairs.{IsOpen, Apart-open, open_from, open_unforced}
use Rattle.store_placement.proofs.ChosenPlacement.{AreApart, chosen_places, ByForce, ByLow, ByHigh, placed_by}
use Rattle.store_placement.proofs.StepsLemmas.{at_low, pair_places, pair_misses, nones, nones-count, length-with_free, filled_kept, rest_taken, free_enough}

map_same : {X Y : Type 0} (f g : X → Y) (xs : List X) → ((x : X) → Among x xs → f x ≡ g x) → map f xs ≡ map g xs
map_same f g [] h = refl
map_same f g (x ∷ xs) h = ap (λ y. y ∷ map f xs) (h x (inl refl)) ∙ ap (λ ys. g x ∷ ys) (map_same f g xs (λ y among. h y (inr among)))

same_map : {X : Type 0} (f g : X → ℕ) (xs : List X) → map f xs ≡ map g xs → (x : X) → Among x xs → f x ≡ g x
same_map f g [] e x among = absurd among
same_map f g (y ∷ ys) e x (inl here) = let first : f y ≡ g y = cc in ap f here ∙ (first ∙ sym (ap g here))
same_map f g (y ∷ ys) e x (inr later) = let rest : map f ys ≡ map g ys = cc in same_map f g ys rest x later

filter_same : (p q : ℕ → Bool) (xs : List ℕ) → ((x : ℕ) → Among x xs → p x ≡ q x) → filter p xs ≡ filter q xs
filter_same p q [] h = refl
filter_same p q (x ∷ xs) h = rw (h x (inl refl)) (ap (λ ys. cond (q x) (x ∷ ys) ys) (filter_same p q xs (λ y among. h y (inr among))))

-- what the steps leave, for these constraints
record AreSteps (fixed : List (Option ℕ)) (pairs : List Pair) : Type 0 where
  clear : AreClear fixed pairs
  enough : length (open_pairs fixed pairs) ≤ length (free_lows (all_forced fixed pairs))

-- the addresses after the pairs
abbrev pub placed_of : List (Option ℕ) → List Pair → List (Option ℕ)
placed_of fixed pairs = with_pairs (all_forced fixed pairs) (open_pairs fixed pairs) (free_lows (all_forced fixed pairs))

abbrev paired_at : List (Option ℕ) → List Pair → ℕ → Option ℕ
paired_at fixed pairs s = pair_address (open_pairs fixed pairs) (free_lows (all_forced fixed pairs)) s

-- the address after all steps
abbrev pub step_address : List (Option ℕ) → List Pair → ℕ → ℕ
step_address fixed pairs s = get_or (with_free (placed_of fixed pairs) (free_addresses (placed_of fixed pairs))) s 0

pub length-placed : (fixed : List (Option ℕ)) (pairs : List Pair) → length (placed_of fixed pairs) ≡ length fixed
unfolding with_pairs
length-placed fixed pairs =
    length-map_below (λ s. option_or (get_or (all_forced fixed pairs) s None) (paired_at fixed pairs s)) (length (all_forced fixed pairs)) ∙ length-all_forced fixed pairs

at_placed : (fixed : List (Option ℕ)) (pairs : List Pair) (s : ℕ) → s < length fixed → get_or (placed_of fixed pairs) s None ≡ option_or (forced fixed pairs s) (paired_at fixed pairs s)
unfolding with_pairs below
at_placed fixed pairs s inside =
    let all : length (all_forced fixed pairs) ≡ length fixed = length-all_forced fixed pairs in
    get_or-map-range_with_len (λ t. option_or (get_or (all_forced fixed pairs) t None) (paired_at fixed pairs t)) 0 (length (all_forced fixed pairs)) s s None (omega arith) (omega arith)
    ∙ ap (λ o. option_or o (paired_at fixed pairs s)) (at_all_forced fixed pairs s None inside)

pub placed_enough : {fixed : List (Option ℕ)} {pairs : List Pair} → AreWithin fixed pairs → nones (placed_of fixed pairs) ≤ length (free_addresses (placed_of fixed pairs))
placed_enough {fixed} {pairs} within =
    let long = length-placed fixed pairs in let short = within.count in free_enough (placed_of fixed pairs) (omega arith)

at_forced : {fixed : List (Option ℕ)} {pairs : List Pair} → AreSteps fixed pairs → (s a : ℕ) → s < length fixed → forced fixed pairs s ≡ Some a → (get_or (placed_of fixed pairs) s None ≡ Some a) × (step_address fixed pairs s ≡ a)
at_forced {fixed} {pairs} h s a inside is =
    let here : get_or (placed_of fixed pairs) s None ≡ Some a = at_placed fixed pairs s inside ∙ ap (λ o. option_or o (paired_at fixed pairs s)) is in
    (here, filled_kept (placed_of fixed pairs) (free_addresses (placed_of fixed pairs)) s a (placed_enough h.clear.within) here)

at_pair : {fixed : List (Option ℕ)} {pairs : List Pair} → AreSteps fixed pairs → (p : Pair) → IsOpen fixed pairs p → (s a : ℕ) → stands_in s p ≡ true → s < length fixed → paired_at fixed pairs s ≡ Some a → (get_or (placed_of fixed pairs) s None ≡ Some a) × (step_address fixed pairs s ≡ a)
at_pair {fixed} {pairs} h p left s a stands inside is =
    let here : get_or (placed_of fixed pairs) s None ≡ Some a = at_placed fixed pairs s inside ∙ (ap (λ o. option_or o (paired_at fixed pairs s)) (open_unforced h.clear p left s stands) ∙ is) in
    (here, filled_kept (placed_of fixed pairs) (free_addresses (placed_of fixed pairs)) s a (placed_enough h.clear.within) here)

-- where the targets of a remaining pair stand
record IsPlacedAt (fixed : List (Option ℕ)) (pairs : List Pair) (p : Pair) (a : ℕ) : Type 0 where
  given : paired_at fixed pairs p.no ≡ Some a
  low : step_address fixed pairs p.no ≡ a
  high : step_address fixed pairs p.yes ≡ a + 256
  low_placed : get_or (placed_of fixed pairs) p.no None ≡ Some a
  high_placed : get_or (placed_of fixed pairs) p.yes None ≡ Some (a + 256)

stands_at : {fixed : List (Option ℕ)} {pairs : List Pair} → AreSteps fixed pairs → (p : Pair) → Among p (open_pairs fixed pairs) → (a : ℕ) × IsPlacedAt fixed pairs p a
stands_at {fixed} {pairs} h p among =
    let left = open_from fixed pairs p among in
    let of = of_statements h.clear.within p left.among in
    let r = pair_places (open_pairs fixed pairs) (free_lows (all_forced fixed pairs)) (Apart-open h.clear) (λ q in_q. let q_left = open_from fixed pairs q in_q in one_role h.clear q q q_left.among q_left.among) h.enough p among in
    let low = at_pair h p left p.no r.0 (stands_no p) of.1 r.1 in
    let high = at_pair h p left p.yes (r.0 + 256) (stands_yes p) of.0 r.2 in
    (r.0, record { given = r.1; low = low.1; high = high.1; low_placed = low.0; high_placed = high.0 })

some_not_none : (o : Option ℕ) (a : ℕ) → o ≡ Some a → is_none o ≡ false
some_not_none None a e = cc
some_not_none (Some b) a e = refl

-- singles are the statements that have no address after the pairs
single_parts : (fixed : List (Option ℕ)) (pairs : List Pair) (s : ℕ) → is_single fixed pairs s ≡ true → (fixed_at fixed s ≡ None) × (list_any (stands_in s) pairs ≡ false)
unfolding is_single
single_parts fixed pairs s is =
    elim (fixed_at fixed s) as (λ o. (is_none o && not (list_any (stands_in s) pairs)) ≡ true → (o ≡ None) × (list_any (stands_in s) pairs ≡ false)) [
      | None ↦ λ h. (refl, elim (list_any (stands_in s) pairs) as (λ b. not b ≡ true → b ≡ false) [ true ↦ λ k. cc | false ↦ λ k. refl ] h)
      | Some a ↦ λ h. cc
    ] is

single_none : {fixed : List (Option ℕ)} {pairs : List Pair} → AreSteps fixed pairs → (s : ℕ) → s < length fixed → is_single fixed pairs s ≡ true → get_or (placed_of fixed pairs) s None ≡ None
single_none {fixed} {pairs} h s inside is =
    let parts = single_parts fixed pairs s is in
    let stands : (p : Pair) → Among p pairs → stands_in s p ≡ true → ⊥ = λ p among yes_stands.
    let wrong : true ≡ false = sym yes_stands ∙ none_of (stands_in s) pairs p parts.1 among in cc in
    let unforced : forced fixed pairs s ≡ None = forced_none fixed pairs s parts.0 (λ p among yes_stands. absurd (stands p among yes_stands)) in
    let missed : paired_at fixed pairs s ≡ None = pair_misses (open_pairs fixed pairs) (free_lows (all_forced fixed pairs)) s (λ p among.
    let left = open_from fixed pairs p among in (
      λ e. stands p left.among (or_right (eqb p.yes s) (eqb p.no s) (eq-eqb p.no s e)),
      λ e. stands p left.among (or_left (eqb p.yes s) (eqb p.no s) (eq-eqb p.yes s e)),
    )) in
    at_placed fixed pairs s inside ∙ (ap (λ o. option_or o (paired_at fixed pairs s)) unforced ∙ missed)

other_some : {fixed : List (Option ℕ)} {pairs : List Pair} → AreSteps fixed pairs → (s : ℕ) → s < length fixed → is_single fixed pairs s ≡ false → get_or (placed_of fixed pairs) s None ≡ Some (step_address fixed pairs s)
other_some {fixed} {pairs} h s inside is =
    elim (placed_by {d = record { fixed = fixed; pairs = pairs }} h.clear s is) [
      | ByForce a e ↦ let r = at_forced h s a inside e in r.0 ∙ ap Some (sym r.1)
      | ByLow p among low ↦
          let r = stands_at h p among in
          ap (λ k. get_or (placed_of fixed pairs) k None) (sym low) ∙ (r.1.low_placed ∙ ap Some (sym r.1.low ∙ ap (step_address fixed pairs) low))
      | ByHigh p among high ↦
          let r = stands_at h p among in
          ap (λ k. get_or (placed_of fixed pairs) k None) (sym high) ∙ (r.1.high_placed ∙ ap Some (sym r.1.high ∙ ap (step_address fixed pairs) high))
    ]

single_is : {fixed : List (Option ℕ)} {pairs : List Pair} → AreSteps fixed pairs → (s : ℕ) → s < length fixed → is_single fixed pairs s ≡ is_none (get_or (placed_of fixed pairs) s None)
single_is {fixed} {pairs} h s inside =
    elim (is_single fixed pairs s) as (λ b. is_single fixed pairs s ≡ b → b ≡ is_none (get_or (placed_of fixed pairs) s None)) [
      | true ↦ λ is. sym (ap (λ o. is_none o) (single_none h s inside is))
      | false ↦ λ is. sym (some_not_none (get_or (placed_of fixed pairs) s None) (step_address fixed pairs s) (other_some h s inside is))
    ] refl

before_is : {fixed : List (Option ℕ)} {pairs : List Pair} → AreSteps fixed pairs → before_singles (record { fixed = fixed; pairs = pairs }) (step_address fixed pairs) ≡ placed_of fixed pairs
unfolding before_singles below
before_is {fixed} {pairs} h =
    let here : (s : ℕ) → s < length fixed → cond (is_single fixed pairs s) None (Some (step_address fixed pairs s)) ≡ get_or (placed_of fixed pairs) s None = λ s inside.
    elim (is_single fixed pairs s) as (λ b. is_single fixed pairs s ≡ b → cond b None (Some (step_address fixed pairs s)) ≡ get_or (placed_of fixed pairs) s None) [
      | true ↦ λ is. sym (single_none h s inside is)
      | false ↦ λ is. sym (other_some h s inside is)
    ] refl in
    sym (fill_by_all (λ s. cond (is_single fixed pairs s) None (Some (step_address fixed pairs s))) (placed_of fixed pairs) (length fixed) None (length-placed fixed pairs) (λ s inside. sym (here s inside)))

singles_are : {fixed : List (Option ℕ)} {pairs : List Pair} → AreSteps fixed pairs → singles fixed pairs ≡ filter (λ s. is_none (get_or (placed_of fixed pairs) s None)) (below (length (placed_of fixed pairs)))
unfolding singles
singles_are {fixed} {pairs} h =
    filter_same (is_single fixed pairs) (λ s. is_none (get_or (placed_of fixed pairs) s None)) (below (length fixed)) (λ s among. single_is h s (among-below (length fixed) s among))
    ∙ ap (λ n. filter (λ s. is_none (get_or (placed_of fixed pairs) s None)) (below n)) (sym (length-placed fixed pairs))

pub steps_chosen : {fixed : List (Option ℕ)} {pairs : List Pair} → AreClear fixed pairs → length (open_pairs fixed pairs) ≤ length (free_lows (all_forced fixed pairs)) → IsChosen (record { fixed = fixed; pairs = pairs }) (step_address fixed pairs)
steps_chosen {fixed} {pairs} clear enough =
    let h : AreSteps fixed pairs = record { clear = clear; enough = enough } in
    let at = step_address fixed pairs in
    let last = singles fixed pairs in
    record {
      keeps_forced = λ s a inside is. (at_forced h s a inside is).1;
      lows = at_low (open_pairs fixed pairs) (free_lows (all_forced fixed pairs)) (λ p. step_address fixed pairs p.no) (Apart-open clear) enough (λ p among. let r = stands_at h p among in r.1.given ∙ ap Some (sym r.1.low));
      highs = All-from_among (λ p. step_address fixed pairs p.yes ≡ step_address fixed pairs p.no + 256) (open_pairs fixed pairs) (λ p among. let r = stands_at h p among in r.1.high ∙ ap (λ a. a + 256) (sym r.1.low));
      rest = ap (map (step_address fixed pairs)) (singles_are h)
          ∙ (rest_taken (placed_of fixed pairs) (free_addresses (placed_of fixed pairs)) (placed_enough clear.within)
          ∙ (ap (λ xs. take (length xs) (free_addresses (placed_of fixed pairs))) (sym (singles_are h))
          ∙ ap (λ xs. take (length last) (free_addresses xs)) (sym (before_is h))));
    }

-- two chosen placements agree on each statement
others_agree : {d : Demands} {f g : ℕ → ℕ} → AreClear d.fixed d.pairs → IsChosen d f → IsChosen d g → (s : ℕ) → s < length d.fixed → is_single d.fixed d.pairs s ≡ false → f s ≡ g s
others_agree {d} {f} {g} c by_f by_g s inside is =
    let pairs = open_pairs d.fixed d.pairs in
    let low_agrees : (p : Pair) → Among p pairs → f p.no ≡ g p.no = same_map (λ q. f q.no) (λ q. g q.no) pairs (by_f.lows ∙ sym by_g.lows) in
    elim (placed_by {d = d} c s is) [
      | ByForce a e ↦ by_f.keeps_forced s a inside e ∙ sym (by_g.keeps_forced s a inside e)
      | ByLow p among low ↦ ap f (sym low) ∙ (low_agrees p among ∙ ap g low)
      | ByHigh p among high ↦
          let of_f = All-among (λ q. f q.yes ≡ f q.no + 256) pairs p by_f.highs among in
          let of_g = All-among (λ q. g q.yes ≡ g q.no + 256) pairs p by_g.highs among in
          ap f (sym high) ∙ (of_f ∙ (ap (λ a. a + 256) (low_agrees p among) ∙ (sym of_g ∙ ap g high)))
    ]

before_agree : {d : Demands} {f g : ℕ → ℕ} → AreClear d.fixed d.pairs → IsChosen d f → IsChosen d g → before_singles d f ≡ before_singles d g
unfolding before_singles
before_agree {d} {f} {g} c by_f by_g =
    map_same (λ s. cond (is_single d.fixed d.pairs s) None (Some (f s))) (λ s. cond (is_single d.fixed d.pairs s) None (Some (g s))) (below (length d.fixed)) (λ s among.
    elim (is_single d.fixed d.pairs s) as (λ b. is_single d.fixed d.pairs s ≡ b → cond b None (Some (f s)) ≡ cond b None (Some (g s))) [
      | true ↦ λ is. refl
      | false ↦ λ is. ap Some (others_agree c by_f by_g s (among-below (length d.fixed) s among) is)
    ] refl)

pub chosen_agree : {d : Demands} {f g : ℕ → ℕ} → AreClear d.fixed d.pairs → IsChosen d f → IsChosen d g → (s : ℕ) → s < length d.fixed → f s ≡ g s
unfolding singles
chosen_agree {d} {f} {g} c by_f by_g s inside =
    let last = singles d.fixed d.pairs in
    elim (is_single d.fixed d.pairs s) as (λ b. is_single d.fixed d.pairs s ≡ b → f s ≡ g s) [
      | true ↦ λ is. same_map f g last (by_f.rest ∙ (ap (λ xs. take (length last) (free_addresses xs)) (before_agree c by_f by_g) ∙ sym by_g.rest)) s
          (among_filter (is_single d.fixed d.pairs) (below (length d.fixed)) s (among_below (length d.fixed) s inside) is)
      | false ↦ λ is. others_agree c by_f by_g s inside is
    ] refl

-- the addresses that the steps leave are the chosen placement, where nothing is refused
pub steps_place : (fixed : List (Option ℕ)) (pairs : List Pair) (addresses : List ℕ) → AreWithin fixed pairs → Never (clashes pairs) (length fixed) → Never (in_wrong_half fixed pairs) (length fixed) → NeverTwo (collide fixed pairs) (length fixed) → length (open_pairs fixed pairs) ≤ length (free_lows (all_forced fixed pairs)) → addresses ≡ with_free (placed_of fixed pairs) (free_addresses (placed_of fixed pairs)) → IsChosenList (record { fixed = fixed; pairs = pairs }) addresses
steps_place fixed pairs addresses within clear halved apart enough are =
    let c : AreClear fixed pairs = record { within = within; clear = clear } in
    let h : AreApart fixed pairs = record { halved = record { clear = c; halved = halved }; apart = apart } in
    let d : Demands = record { fixed = fixed; pairs = pairs } in
    let chosen : IsChosen d (step_address fixed pairs) = steps_chosen c enough in
    let P : List ℕ → Type 0 = λ xs. IsChosenList d xs in
    subst P (sym are) (record {
      places = record {
        count = length-with_free (placed_of fixed pairs) (free_addresses (placed_of fixed pairs)) (placed_enough within) ∙ length-placed fixed pairs;
        places = chosen_places h chosen;
      };
      chosen = chosen;
    })

-- enough addresses are free for the statements without one
pub free_for_rest : (fixed : List (Option ℕ)) (pairs : List Pair) (placed : List (Option ℕ)) (free : List ℕ) → AreWithin fixed pairs → placed ≡ placed_of fixed pairs → free ≡ free_addresses placed → count_by (λ o. is_none o) placed ≤ length free
free_for_rest fixed pairs placed free within is are =
    let enough = placed_enough within in
    let count = nones-count (placed_of fixed pairs) in
    let P : List (Option ℕ) → Type 0 = λ xs. count_by (λ o. is_none o) xs ≤ length (free_addresses xs) in
    let most : P (placed_of fixed pairs) = omega arith in
    let Q : List ℕ → Type 0 = λ xs. count_by (λ o. is_none o) placed ≤ length xs in
    subst Q (sym are) (subst P (sym is) most)

-- the low addresses are below 256
pub lows_inside : (placed : List (Option ℕ)) → All (λ a. a < 256) (free_lows placed)
unfolding free_lows
lows_inside placed = All-from_among (λ a. a < 256) (filter (is_free_low placed) (below 256)) (λ a among. among-below 256 a (among-filter (is_free_low placed) (below 256) a among).0)
