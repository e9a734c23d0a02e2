-- Places in lists: where the pool has each number.
use Rattle.tiny_compiler.proofs.Common.{◌≡◌, ◌≢◌, ◌≤◌, ◌⊎◌, inl, inr, ⊎_elim, ℕ, suc, ◌+◌, Bool, true, false, List, [], ◌∷◌, ◌++◌, length, Some, refl, sym, ap}
use Rattle.tiny_compiler.proofs.Common.{◌∙◌, arith, not, ◌==◌, slice_get, cond, All, filter, position_or_len, eq-eqb, eqb_tells, All-nil, All-cons, All-head}
use Rattle.tiny_compiler.proofs.Common.{All-tail}
use Rattle.tiny_code.specs.Prelude.{once, apart}

-- ---- each number once

abbrev In : ℕ → List ℕ → Type 0
In n [] = ⊥
In n (y ∷ ys) = (y ≡ n) ⊎ In n ys

abbrev pub Finds : List ℕ → ℕ → Type 0
Finds ys n = slice_get ys (position_or_len (λ m. m == n) ys) ≡ Some n

first_or_later : (y n : ℕ) (ys : List ℕ) (b : Bool) → (b ≡ true → y ≡ n) → Finds ys n ⊎ (b ≡ true) →
    slice_get (y ∷ ys) (cond (not b) (1 + position_or_len (λ m. m == n) ys) 0) ≡ Some n
first_or_later y n ys true is h = ap (λ (x : ℕ). Some x) (is refl)
first_or_later y n ys false is (inl h) =
    let e : 1 + position_or_len (λ m. m == n) ys ≡ suc (position_or_len (λ m. m == n) ys) = omega arith in
    ap (λ (k : ℕ). slice_get (y ∷ ys) k) e ∙ h
first_or_later y n ys false is (inr h) = cc

finds_at : (y n : ℕ) (ys : List ℕ) → Finds ys n ⊎ (y ≡ n) → Finds (y ∷ ys) n
finds_at y n ys (inl h) = first_or_later y n ys (y == n) (λ e. eqb_is y n e) (inl h)
  where
    eqb_is : (y n : ℕ) → (y == n) ≡ true → y ≡ n
    eqb_is y n e = ⊎_elim (λ t. t.1) (λ t. let bad : true ≡ false = sym e ∙ t.0 in absurd (cc)) (eqb_tells y n)
finds_at y n ys (inr h) = first_or_later y n ys (y == n) (λ e. h) (inr (eq-eqb y n h))

in_finds : (n : ℕ) (ys : List ℕ) → In n ys → Finds ys n
in_finds n [] h = absurd h
in_finds n (y ∷ ys) (inl h) = finds_at y n ys (inr h)
in_finds n (y ∷ ys) (inr h) = finds_at y n ys (inl (in_finds n ys h))

kept : (n y : ℕ) (ys : List ℕ) (b : Bool) → (y ≡ n → b ≡ true) → (y ≡ n) ⊎ In n ys → In n (cond b (y ∷ ys) ys)
kept n y ys true keeps h = h
kept n y ys false keeps (inl h) = let bad : false ≡ true = keeps h in absurd (cc)
kept n y ys false keeps (inr h) = h

in_filter : (n x : ℕ) (ys : List ℕ) → n ≢ x → In n ys → In n (filter (λ m. not (m == x)) ys)
in_filter n x [] other h = absurd h
in_filter n x (y ∷ ys) other (inl h) = kept n y (filter (λ m. not (m == x)) ys) (not (y == x)) (apart n x y other) (inl h)
in_filter n x (y ∷ ys) other (inr h) = kept n y (filter (λ m. not (m == x)) ys) (not (y == x)) (apart n x y other) (inr (in_filter n x ys other h))

in_once : (n : ℕ) (xs : List ℕ) → In n xs → In n (once xs)
in_once n [] h = absurd h
in_once n (x ∷ xs) (inl h) = inl h
in_once n (x ∷ xs) (inr h) =
    ⊎_elim (λ t. inl (sym t.1)) (λ t. inr (in_filter n x _ (λ e. let bad : true ≡ false = sym (eq-eqb n x e) ∙ t.0 in absurd (cc)) (in_once n xs h)))
    (eqb_tells n x)

all_in : (ys xs : List ℕ) → ((n : ℕ) → In n xs → In n ys) → All (λ n. In n ys) xs
all_in ys [] h = All-nil (λ n. In n ys)
all_in ys (x ∷ xs) h = All-cons (λ n. In n ys) x xs (h x (inl refl)) (all_in ys xs (λ n i. h n (inr i)))

all_by : (P Q : ℕ → Type 0) (xs : List ℕ) → ((n : ℕ) → P n → Q n) → All P xs → All Q xs
all_by P Q [] f h = All-nil Q
all_by P Q (x ∷ xs) f h = All-cons Q x xs (f x (All-head P x xs h)) (all_by P Q xs f (All-tail P x xs h))

-- each number is found among the numbers that stand once
pub all_found : (xs : List ℕ) (P : ℕ → Type 0) → ((n : ℕ) → Finds (once xs) n → P n) → All P xs
all_found xs P f = all_by (λ n. In n xs) P xs (λ n h. f n (in_finds n (once xs) (in_once n xs h))) (all_in xs xs (λ n h. h))

pub prefix_short : (p : ℕ → Bool) (ys : List ℕ) → position_or_len p ys ≤ length ys
prefix_short p [] = omega arith
prefix_short p (y ∷ ys) = by (not (p y)) (prefix_short p ys)
  where
    by : (b : Bool) → position_or_len p ys ≤ length ys → cond b (1 + position_or_len p ys) 0 ≤ suc (length ys)
    by true short = omega (arith, short)
    by false short = omega arith

-- a place after the front is a place of the back
pub get_after : (front back : List ℕ) (k : ℕ) → slice_get (front ++ back) (length front + k) ≡ slice_get back k
get_after [] back k = let e : 0 + k ≡ k = omega arith in ap (slice_get back) e
get_after (x ∷ front) back k =
    let e : suc (length front) + k ≡ suc (length front + k) = omega arith in
    ap (λ (j : ℕ). slice_get (x ∷ (front ++ back)) j) e ∙ get_after front back k
