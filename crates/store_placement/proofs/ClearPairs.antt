-- What holds where no statement stands in two pairs or in both roles, none is fixed in the wrong half, and no two collide.
use Rattle.store_placement.proofs.Common.{◌≡◌, ℕ, ◌<◌, ◌≤◌, true, false, cond, not, ◌&&◌, ◌⊎◌, List, Option, Some, length, eqb, refl, sym, ap, ◌∙◌, inl, inr}
use Rattle.store_placement.proofs.Common.{arith, eqb-true, eq-eqb, cases_lt, lt-ltb, le-ltb, and_from, and_parts, not-false, or_cases, or_left, or_parts}
use Rattle.store_placement.proofs.Common.{or_right, Pair, AreWithin, IsOfStatements, fixed_at, same_pair, Never, stands_in, stands_beside, stands_twice}
use Rattle.store_placement.proofs.Common.{clashes, in_wrong_half, is_wrong, is_true_target, is_false_target}
use Rattle.store_placement.proofs.Among.{Among, All-among, any_at, none_of, right_false}

-- the pairs are of statements, and no statement clashes
pub record AreClear (fixed : List (Option ℕ)) (pairs : List Pair) : Type 0 where
  pub within : AreWithin fixed pairs
  pub clear : Never (clashes pairs) (length fixed)

pub of_statements : {fixed : List (Option ℕ)} {pairs : List Pair} → AreWithin fixed pairs → (p : Pair) → Among p pairs → IsOfStatements (length fixed) p
of_statements {fixed} {pairs} within p among = All-among (IsOfStatements (length fixed)) pairs p within.targets among

pub stands_cases : (s : ℕ) (p : Pair) → stands_in s p ≡ true → (p.yes ≡ s) ⊎ (p.no ≡ s)
stands_cases s p h = elim (or_cases (eqb p.yes s) (eqb p.no s) h) [
  | inl high ↦ inl (eqb-true p.yes s high)
  | inr low ↦ inr (eqb-true p.no s low)
]

pub stands_yes : (p : Pair) → stands_in p.yes p ≡ true
stands_yes p = or_left (eqb p.yes p.yes) (eqb p.no p.yes) (eq-eqb p.yes p.yes refl)

pub stands_no : (p : Pair) → stands_in p.no p ≡ true
stands_no p = or_right (eqb p.yes p.no) (eqb p.no p.no) (eq-eqb p.no p.no refl)

stands_below : (n s : ℕ) (p : Pair) → IsOfStatements n p → stands_in s p ≡ true → s < n
stands_below n s p of h = elim (stands_cases s p h) [ inl high ↦ omega arith | inr low ↦ omega arith ]

pub pair_is : (p q : Pair) → p.yes ≡ q.yes → p.no ≡ q.no → p ≡ q
pair_is p q same_high same_low =
    let made : ℕ → ℕ → Pair = λ y n. record { yes = y; no = n } in
    ap (λ y. made y p.no) same_high ∙ ap (λ n. made q.yes n) same_low

same_pair_is : (p q : Pair) → same_pair p q ≡ true → p ≡ q
same_pair_is p q h = pair_is p q (eqb-true p.yes q.yes (and_parts _ _ h).0) (eqb-true p.no q.no (and_parts _ _ h).1)

no_clash : {fixed : List (Option ℕ)} {pairs : List Pair} → AreClear fixed pairs → (s : ℕ) (p : Pair) → Among p pairs → stands_in s p ≡ true → clashes pairs s ≡ false
no_clash {fixed} {pairs} c s p among stands = c.clear s (stands_below (length fixed) s p (of_statements c.within p among) stands)

-- a statement stands in at most one pair
pub one_pair : {fixed : List (Option ℕ)} {pairs : List Pair} → AreClear fixed pairs → (s : ℕ) (p q : Pair) → Among p pairs → Among q pairs → stands_in s p ≡ true → stands_in s q ≡ true → p ≡ q
unfolding clashes stands_twice
one_pair {fixed} {pairs} c s p q in_p in_q stands_p stands_q =
    let none = no_clash c s p in_p stands_p in
    let twice = (or_parts (stands_twice pairs s) (is_true_target pairs s && is_false_target pairs s) none).0 in
    let beside = right_false (stands_in s p) (stands_beside pairs s p) (none_of (λ r. stands_in s r && stands_beside pairs s r) pairs p twice in_p) stands_p in
    same_pair_is p q (not-false (same_pair p q) (right_false (stands_in s q) (not (same_pair p q)) (none_of (λ r. stands_in s r && not (same_pair p r)) pairs q beside in_q) stands_q))

-- a statement stands in at most one role
pub one_role : {fixed : List (Option ℕ)} {pairs : List Pair} → AreClear fixed pairs → (p q : Pair) → Among p pairs → Among q pairs → p.yes ≡ q.no → ⊥
unfolding clashes
one_role {fixed} {pairs} c p q in_p in_q same =
    let none = no_clash c p.yes p in_p (stands_yes p) in
    let roles = (or_parts (stands_twice pairs p.yes) (is_true_target pairs p.yes && is_false_target pairs p.yes) none).1 in
    let is_high = any_at (λ r. eqb r.yes p.yes) pairs p in_p (eq-eqb p.yes p.yes refl) in
    let is_low = any_at (λ r. eqb r.no p.yes) pairs q in_q (eq-eqb q.no p.yes (sym same)) in
    let both = and_from (is_true_target pairs p.yes) (is_false_target pairs p.yes) is_high is_low in
    let wrong : true ≡ false = sym both ∙ roles in cc

-- the pairs are clear, and no statement is fixed in the wrong half
pub record AreHalved (fixed : List (Option ℕ)) (pairs : List Pair) : Type 0 where
  pub clear : AreClear fixed pairs
  pub halved : Never (in_wrong_half fixed pairs) (length fixed)

-- a true target is fixed in the high half
pub fixed_high : {fixed : List (Option ℕ)} {pairs : List Pair} → AreHalved fixed pairs → (p : Pair) (a : ℕ) → Among p pairs → fixed_at fixed p.yes ≡ Some a → 256 ≤ a
unfolding in_wrong_half
fixed_high {fixed} {pairs} h p a among is =
    let right : is_wrong pairs p.yes (Some a) ≡ false = ap (is_wrong pairs p.yes) (sym is) ∙ h.halved p.yes (of_statements h.clear.within p among).0 in
    let target : is_true_target pairs p.yes ≡ true = any_at (λ r. eqb r.yes p.yes) pairs p among (eq-eqb p.yes p.yes refl) in
    elim (cases_lt a 256) [
      | inl low ↦ let wrong : true ≡ false = sym target ∙ (ap (λ b. cond b (is_true_target pairs p.yes) (is_false_target pairs p.yes)) (sym (lt-ltb a 256 low)) ∙ right) in cc
      | inr high ↦ high
    ]

-- a false target is fixed in the low half
pub fixed_low : {fixed : List (Option ℕ)} {pairs : List Pair} → AreHalved fixed pairs → (p : Pair) (a : ℕ) → Among p pairs → fixed_at fixed p.no ≡ Some a → a < 256
unfolding in_wrong_half
fixed_low {fixed} {pairs} h p a among is =
    let right : is_wrong pairs p.no (Some a) ≡ false = ap (is_wrong pairs p.no) (sym is) ∙ h.halved p.no (of_statements h.clear.within p among).1 in
    let target : is_false_target pairs p.no ≡ true = any_at (λ r. eqb r.no p.no) pairs p among (eq-eqb p.no p.no refl) in
    elim (cases_lt a 256) [
      | inl low ↦ low
      | inr high ↦ let wrong : true ≡ false = sym target ∙ (ap (λ b. cond b (is_true_target pairs p.no) (is_false_target pairs p.no)) (sym (le-ltb a 256 high)) ∙ right) in cc
    ]
