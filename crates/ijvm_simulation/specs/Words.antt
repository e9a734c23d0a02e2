-- Words and bytes as an interpreter meets them in its registers: a sum, a difference or a next address that is in range is the number itself.
use Rattle.std.proofs.Common.{◌≡◌, ℕ, ◌+◌, ◌-◌, ◌/◌, ◌%◌, ◌^◌, ◌<◌, ◌==◌, Bool, true, false, List, [], ◌∷◌, ◌++◌, refl, sym, arith, ◌∙◌, ap, add_comm}
use Rattle.std.specs.Prelude.{slice_index, nat_lt, if◌then◌else◌}
use Rattle.ijvm_simulation.specs.Common.{nat_tests, append-nil, wrap, plus, minus, next, before, byte_in, given_after, IsWord}
use Rattle.ijvm_simulation.specs.Law.{Grows}

pub wrap_small : (x : ℕ) → x < 2 ^ 32 → wrap x ≡ x
unfolding wrap
wrap_small x h = omega arith

pub next_is : (x y : ℕ) → x + 1 ≡ y → y < 2 ^ 32 → next x ≡ y
unfolding wrap
next_is x y e h = omega arith

pub before_is : (x y : ℕ) → x ≡ y + 1 → x < 2 ^ 32 → before x ≡ y
unfolding wrap
before_is x y e h = omega arith

pub plus_is : {x y x' y' z : ℕ} → x ≡ x' → y ≡ y' → x' + y' ≡ z → z < 2 ^ 32 → plus x y ≡ z
plus_is {x} {y} {x'} {y'} {z} ex ey e h = wrap_small (x + y) (omega arith) ∙ omega arith

pub minus_is : {x y x' y' z : ℕ} → x ≡ x' → y ≡ y' → x' ≡ z + y' → x' < 2 ^ 32 → minus x y ≡ z
unfolding wrap
minus_is {x} {y} {x'} {y'} {z} ex ey e h = omega arith

pub plus_comm : (x y : ℕ) → plus x y ≡ plus y x
plus_comm x y = ap wrap (add_comm x y)

-- words are compared by their difference
pub difference_zero : (y x : ℕ) → IsWord y → IsWord x → (minus y x == 0) ≡ (x == y)
unfolding wrap
difference_zero y x ly lx = grind (arith, nat_tests)

pub byte_bound : (words : List ℕ) (p : ℕ) → byte_in words p < 256
unfolding byte_in
byte_bound words p = omega arith

-- a byte below the stack is what it was
pub byte_kept : (words origin : List ℕ) {x p : ℕ} → ((a : ℕ) → a < 0x8000 → slice_index words a ≡ slice_index origin a) → x ≡ p → p < 0x20000 →
    byte_in words x ≡ byte_in origin p
unfolding byte_in
byte_kept words origin {p = p} h e l =
    ap (λ (k : ℕ). slice_index words (k / 4) / 256 ^ (3 - k % 4) % 256) e
    ∙ ap (λ (v : ℕ). v / 256 ^ (3 - p % 4) % 256) (h (p / 4) (omega arith))

pub grows_not : (xs : List ℕ) → Grows xs xs
grows_not xs = record { more = []; are = sym (append-nil xs) }

-- what a write gives comes after what had been given
pub given_grows : (top : ℕ) (given : List ℕ) (at value : ℕ) → Grows given (given_after top given at value)
unfolding given_after
given_grows top given at value = by_test (nat_lt at top)
  where
    by_test : (t : Bool) → Grows given (if t then given else given ++ (value % 256) ∷ [])
    by_test true = grows_not given
    by_test false = record { more = (value % 256) ∷ []; are = refl }
