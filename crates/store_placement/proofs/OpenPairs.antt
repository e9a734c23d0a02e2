-- The pairs that no fixed statement places.
use Rattle.store_placement.proofs.Common.{◌≡◌, ◌≢◌, ℕ, ◌<◌, min, true, ◌&&◌, List, Option, Some, None, length, eqb, refl, sym, ap, ◌∙◌, inl, inr, arith}
use Rattle.store_placement.proofs.Common.{is_none, eqb-true, eq-eqb, cases_lt, and_parts, or_left, or_right, Pair, fixed_at, below, stands_in, forced}
use Rattle.store_placement.proofs.Common.{is_opened_by, opened_by, open_pairs}
use Rattle.store_placement.proofs.Among.{Among, among-filter_map, among_filter_map, among_below, found, find_some}
use Rattle.store_placement.proofs.Apart.{Apart, Apart-below, Apart-filter_map}
use Rattle.store_placement.proofs.ClearPairs.{AreClear, of_statements, stands_cases, stands_yes, stands_no, one_pair, one_role}
use Rattle.store_placement.proofs.ForcedBy.{forced_none}

pub none_is : (o : Option ℕ) → is_none o ≡ true → o ≡ None
none_is None h = refl
none_is (Some x) h = cc

-- a remaining pair: a pair of the list, with no target fixed
pub record IsOpen (fixed : List (Option ℕ)) (pairs : List Pair) (p : Pair) : Type 0 where
  pub among : Among p pairs
  pub yes_free : fixed_at fixed p.yes ≡ None
  pub no_free : fixed_at fixed p.no ≡ None

opened : (fixed : List (Option ℕ)) (pairs : List Pair) (s : ℕ) (p : Pair) → opened_by fixed pairs s ≡ Some p → IsOpen fixed pairs p × (min p.yes p.no ≡ s)
opened fixed pairs s p e =
    let r = found (is_opened_by fixed s) pairs p e in
    let lower = (and_parts (eqb (min p.yes p.no) s) (is_none (fixed_at fixed p.yes) && is_none (fixed_at fixed p.no)) r.1).0 in
    let unfixed = (and_parts (eqb (min p.yes p.no) s) (is_none (fixed_at fixed p.yes) && is_none (fixed_at fixed p.no)) r.1).1 in (
      record {
        among = r.0;
        yes_free = none_is (fixed_at fixed p.yes) (and_parts (is_none (fixed_at fixed p.yes)) (is_none (fixed_at fixed p.no)) unfixed).0;
        no_free = none_is (fixed_at fixed p.no) (and_parts (is_none (fixed_at fixed p.yes)) (is_none (fixed_at fixed p.no)) unfixed).1;
      },
      eqb-true (min p.yes p.no) s lower,
    )

pub open_from : (fixed : List (Option ℕ)) (pairs : List Pair) (p : Pair) → Among p (open_pairs fixed pairs) → IsOpen fixed pairs p
unfolding open_pairs
open_from fixed pairs p among =
    let r = among-filter_map (opened_by fixed pairs) (below (length fixed)) p among in
    (opened fixed pairs r.0 p r.2).0

lower_stands : (p : Pair) (s : ℕ) → min p.yes p.no ≡ s → stands_in s p ≡ true
lower_stands p s e = elim (cases_lt p.no p.yes) [
  | inl less ↦ or_right (eqb p.yes s) (eqb p.no s) (eq-eqb p.no s (omega arith))
  | inr more ↦ or_left (eqb p.yes s) (eqb p.no s) (eq-eqb p.yes s (omega arith))
]

pub among_open : {fixed : List (Option ℕ)} {pairs : List Pair} → AreClear fixed pairs → (p : Pair) → IsOpen fixed pairs p → Among p (open_pairs fixed pairs)
unfolding open_pairs
among_open {fixed} {pairs} c p left =
    let of = of_statements c.within p left.among in
    let inside : min p.yes p.no < length fixed = omega (arith, of.0, of.1) in
    let passes : is_opened_by fixed (min p.yes p.no) p ≡ true = rw (eq-eqb (min p.yes p.no) (min p.yes p.no) refl, left.yes_free, left.no_free) refl in
    let r = find_some (is_opened_by fixed (min p.yes p.no)) pairs p left.among passes in
    let q = opened fixed pairs (min p.yes p.no) r.0 r.1 in
    let same : r.0 ≡ p = one_pair c (min p.yes p.no) r.0 p q.0.among left.among (lower_stands r.0 (min p.yes p.no) q.1) (lower_stands p (min p.yes p.no) refl) in
    among_filter_map (opened_by fixed pairs) (below (length fixed)) (min p.yes p.no) p (among_below (length fixed) (min p.yes p.no) inside) (r.1 ∙ ap Some same)

-- two pairs without a common target
pub record AreDisjoint (p q : Pair) : Type 0 where
  pub yes_yes : p.yes ≢ q.yes
  pub yes_no : p.yes ≢ q.no
  pub no_yes : p.no ≢ q.yes
  pub no_no : p.no ≢ q.no

pub Apart-open : {fixed : List (Option ℕ)} {pairs : List Pair} → AreClear fixed pairs → Apart AreDisjoint (open_pairs fixed pairs)
unfolding open_pairs
Apart-open {fixed} {pairs} c =
    Apart-filter_map ◌<◌ AreDisjoint (opened_by fixed pairs) (λ s t p q less is_p is_q.
    let in_p = opened fixed pairs s p is_p in
    let in_q = opened fixed pairs t q is_q in
    let differ : p ≡ q → ⊥ = λ same. let e : s ≡ t = sym in_p.1 ∙ (ap (λ (r : Pair). min r.yes r.no) same ∙ in_q.1) in omega arith in
    record {
      yes_yes = λ e. differ (one_pair c p.yes p q in_p.0.among in_q.0.among (stands_yes p) (or_left (eqb q.yes p.yes) (eqb q.no p.yes) (eq-eqb q.yes p.yes (sym e))));
      yes_no = λ e. one_role c p q in_p.0.among in_q.0.among e;
      no_yes = λ e. one_role c q p in_q.0.among in_p.0.among (sym e);
      no_no = λ e. differ (one_pair c p.no p q in_p.0.among in_q.0.among (stands_no p) (or_right (eqb q.yes p.no) (eqb q.no p.no) (eq-eqb q.no p.no (sym e))));
    }) (below (length fixed)) (Apart-below (length fixed))

-- the targets of a remaining pair are forced to no address
pub open_unforced : {fixed : List (Option ℕ)} {pairs : List Pair} → AreClear fixed pairs → (p : Pair) → IsOpen fixed pairs p → (s : ℕ) → stands_in s p ≡ true → forced fixed pairs s ≡ None
open_unforced {fixed} {pairs} c p left s stands =
    let unfixed : fixed_at fixed s ≡ None = elim (stands_cases s p stands) [
      | inl high ↦ ap (fixed_at fixed) (sym high) ∙ left.yes_free
      | inr low ↦ ap (fixed_at fixed) (sym low) ∙ left.no_free
    ] in
    forced_none fixed pairs s unfixed (λ q among stands_q.
    let same : q ≡ p = one_pair c s q p among left.among stands_q stands in
    (ap (λ (r : Pair). fixed_at fixed r.yes) same ∙ left.yes_free, ap (λ (r : Pair). fixed_at fixed r.no) same ∙ left.no_free))
