-- How long code is and where it stands, part by part, and where its jumps lead.
use Rattle.std.proofs.Common.{◌≡◌, ◌≤◌, ℕ, zero, suc, ◌+◌, ◌-◌, ◌%◌, List, [], ◌∷◌, ◌++◌, length, refl, ap, ◌∙◌, subst, arith, length-append}
use Rattle.std.specs.Prelude.{pos, neg_ℤ, All}
use Rattle.tiny_code.specs.Common.{All-nil, All-cons, All-head, All-tail, wrap, Instr, row_of, size_of, spelling, target, code_bytes}
use Rattle.tiny_code.specs.Code.{code_size}
use Rattle.tiny_code.specs.Laid.{CodeAt}

pub size_append : (a b : List Instr) → code_size (a ++ b) ≡ code_size a + code_size b
size_append [] b = omega arith
size_append (i ∷ a) b = omega (arith, size_append a b)

pub bytes_size : (code : List Instr) → length (code_bytes code) ≡ code_size code
unfolding code_bytes
bytes_size [] = refl
bytes_size (i ∷ is) = length-append (spelling i) (code_bytes is) ∙ ap (λ (n : ℕ). size_of (row_of i) + n) (bytes_size is)

pub front_at : (text : List ℕ) (at : ℕ) (a b : List Instr) → CodeAt text at (a ++ b) → CodeAt text at a
front_at text at [] [] h = h
front_at text at [] (i ∷ b) h = h.0
front_at text at (i ∷ a) b h = (h.0, h.1, front_at text (at + size_of (row_of i)) a b h.2)

pub back_at : (text : List ℕ) (at : ℕ) (a b : List Instr) → CodeAt text at (a ++ b) → CodeAt text (at + code_size a) b
back_at text at [] b h = let e : at ≡ at + 0 = omega arith in subst (λ (x : ℕ). CodeAt text x b) e h
back_at text at (i ∷ a) b h =
    let e : at + size_of (row_of i) + code_size a ≡ at + code_size (i ∷ a) = omega arith in
    subst (λ (x : ℕ). CodeAt text x b) e (back_at text (at + size_of (row_of i)) a b h.2)

-- ---- jumps

pub forward : (at d : ℕ) → at + d ≤ 65536 → target at (pos d) ≡ at + d
unfolding wrap
forward at d h = let e : (at + d) % 4294967296 ≡ at + d = omega arith in e

pub backward : (at d : ℕ) → at + d ≤ 65536 → target (at + d) (neg_ℤ (pos d)) ≡ at
unfolding wrap
backward at zero h = let e : (at + 0 + 0) % 4294967296 ≡ at = omega arith in e
backward at (suc k) h = let e : (at + suc k + (4294967296 - suc k)) % 4294967296 ≡ at = omega arith in e

-- ---- what holds of all

pub all_front : {X : Type 0} (P : X → Type 0) (xs ys : List X) → All P (xs ++ ys) → All P xs
all_front P [] ys h = All-nil P
all_front P (x ∷ xs) ys h = All-cons P x xs (All-head P x (xs ++ ys) h) (all_front P xs ys (All-tail P x (xs ++ ys) h))

pub all_back : {X : Type 0} (P : X → Type 0) (xs ys : List X) → All P (xs ++ ys) → All P ys
all_back P [] ys h = h
all_back P (x ∷ xs) ys h = all_back P xs ys (All-tail P x (xs ++ ys) h)
