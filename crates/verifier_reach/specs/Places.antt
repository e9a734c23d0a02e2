-- What is at a place of a list in which one place was set, and where a reached method begins.
use Rattle.std.proofs.Common.{◌≡◌, ◌≢◌, ℕ, zero, suc, ◌+◌, ◌<◌, Option, Some, List, [], ◌∷◌, length, refl, arith}
use Rattle.std.specs.Prelude.{slice_get, slice_set}
use Rattle.std.proofs.lemmas.Option.{slice_get_within}
use Rattle.ijvm_image.specs.Prelude.{ImageView}
use Rattle.verifier_facts.specs.Prelude.{IsReachedMethod}
use Rattle.verifier_reach.specs.declared.kept.Kept.{Kept}
use Rattle.verifier_reach.specs.Search.{IsClosed, kept_of}

pub get_set_same : {X : Type 0} (xs : List X) (i : ℕ) (v : X) → i < length xs → slice_get (slice_set xs i v) i ≡ Some v
get_set_same [] i v lt = absurd (omega arith)
get_set_same (x ∷ xs) zero v lt = refl
get_set_same (x ∷ xs) (suc i) v lt = get_set_same xs i v (omega arith)

pub get_set_other : {X : Type 0} (xs : List X) (i j : ℕ) (v : X) → j ≢ i → slice_get (slice_set xs i v) j ≡ slice_get xs j
get_set_other [] i j v ne = refl
get_set_other (x ∷ xs) zero zero v ne = absurd (ne refl)
get_set_other (x ∷ xs) zero (suc j) v ne = refl
get_set_other (x ∷ xs) (suc i) zero v ne = refl
get_set_other (x ∷ xs) (suc i) (suc j) v ne = get_set_other xs i j v (λ e. ne (omega arith))

-- a reached method begins inside the text
pub method_inside : (image : ImageView) (seen : List (Option Kept)) (e : ℕ) → IsClosed image seen → IsReachedMethod image e → e + 4 < length image.text
method_inside image seen e closed m = omega (arith, slice_get_within seen (e + 4) (Some (kept_of (Some e) 0)) (closed.starts e m), closed.long)
