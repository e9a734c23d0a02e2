-- There is one number of main's locals.
use Rattle.std.proofs.Common.{◌≡◌, inl, inr, ◌≤◌, ◌+◌, ℕ, arith}
use Rattle.ijvm_image.specs.Prelude.{ImageView}
use Rattle.verifier_facts.specs.Facts.{IsMainCount}

pub at_most : (image : ImageView) (m n : ℕ) → IsMainCount image m → IsMainCount image n → m ≤ n
at_most image m n one other =
    elim one.least [
      | inl none ↦ omega (arith, none)
      | inr some ↦ (let below = other.above some.0 some.1 in let is : m ≡ some.0 + 1 = some.2 in omega (arith, below, is))
    ]

pub one_count : (image : ImageView) (m n : ℕ) → IsMainCount image m → IsMainCount image n → m ≡ n
one_count image m n one other =
    let le : m ≤ n = at_most image m n one other in
    let ge : n ≤ m = at_most image n m other one in
    omega (arith, le, ge)
