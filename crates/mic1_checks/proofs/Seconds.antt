-- The second count of a leaf, found by its first one, and the cycles that follow.
use Rattle.mic1_checks.proofs.Common.{◌≡◌, ◌<◌, ◌+◌, ◌-◌, ◌==◌, ◌&&◌, ◌%◌, if◌then◌else◌, ℕ, zero, suc, Bool, true, false, List, [], ◌∷◌, Option, Some, inl}
use Rattle.mic1_checks.proofs.Common.{inr, length, refl, sym, ap, ◌∙◌, arith, slice_index_or, unwrap_or, All, Contains, cases_Bool, All-contains, All-head}
use Rattle.mic1_checks.proofs.Common.{All-tail, All-weaker, Always, IfTaken, ByEntry, cycles_of, Counts, Agree, DecideSeconds, cost_by, second_in, spent_by}
use Rattle.ijvm_instr.specs.declared.row.Cost.{Cost}

is_same : (a b : ℕ) → (a == b) ≡ true → a ≡ b
is_same a b h = grind (arith, h)

itself : (a : ℕ) → (a == a) ≡ true
itself a = grind arith

both : (a b p q : ℕ) → ((a == b) && (p == q)) ≡ true → (a ≡ b) × (p ≡ q)
both a b p q h = elim (cases_Bool (a == b)) [
  | inl t ↦ let k = rw t at h in (is_same a b t, is_same p q k)
  | inr f ↦ let k = rw f at h in absurd (cc)
]

found : (xs : List Counts) (c : Counts) → All (λ b. Agree b c) xs → (k : ℕ) → k < length xs → slice_index_or xs k c ≡ c →
    second_in xs c.row c.first ≡ Some c.second
found [] c all k h e = absurd (omega (arith, h))
found (x ∷ xs) c all zero h e =
    ap (λ (y : Counts). if (y.row == c.row) && (y.first == c.first) then Some y.second else second_in xs c.row c.first) e
    ∙ rw (itself c.row) (rw (itself c.first) refl)
found (x ∷ xs) c all (suc k) h e =
    let P : Counts → Type 0 = λ b. Agree b c in
    elim (cases_Bool ((x.row == c.row) && (x.first == c.first))) [
      | inl t ↦
          let same = both x.row c.row x.first c.first t in
          let agree : Agree x c = All-head P x xs all in
          rw t (ap Some (agree same.0 same.1))
      | inr f ↦ rw f (found xs c (All-tail P x xs all) k (omega (arith, h)) e)
    ]

-- a leaf's second count is found by its row and its first count
pub decided : (leaves : List Counts) (c : Counts) → DecideSeconds leaves → Contains leaves c → second_in leaves c.row c.first ≡ Some c.second
decided leaves c decide there =
    let agreeing : All (λ a. Agree a c) leaves =
    All-weaker (λ (a : Counts). All (λ b. Agree a b) leaves) (λ (a : Counts). Agree a c)
    (λ a all. All-contains (λ (b : Counts). Agree a b) leaves c all there) leaves decide in
    found leaves c agreeing there.0 there.1 there.2

-- so the cycles of the second store are found by those of the first
pub spent_is : (leaves : List Counts) (c : Counts) (row spent : ℕ) → DecideSeconds leaves → Contains leaves c → c.row ≡ row → spent ≡ c.first + 1 →
    spent_by leaves row spent ≡ c.second + 1
spent_is leaves c row spent decide there its is =
    let less : spent - 1 ≡ c.first = omega (arith, is) in
    ap (λ (o : Option ℕ). unwrap_or o 0 + 1) ((λ j. second_in leaves (sym its j) (less j)) ∙ decided leaves c decide there)

by_bool : (f : ℕ → ℕ) (b : Bool) (x y : ℕ) → (if b then f x else f y) ≡ f (if b then x else y)
by_bool f true x y = refl
by_bool f false x y = refl

pub cost_is : (f : ℕ → ℕ) (cost : Cost) (taken : Bool) (entry : ℕ) → cycles_of (cost_by f cost) taken entry ≡ f (cycles_of cost taken entry)
cost_is f (Always cycles) taken entry = refl
cost_is f (IfTaken jumps falls) taken entry = by_bool f taken jumps falls
cost_is f (ByEntry early late) taken entry = by_bool f (entry % 4 == 3) late early
