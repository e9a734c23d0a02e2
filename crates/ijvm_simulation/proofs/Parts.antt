-- An image by its parts.
use Rattle.std.proofs.Common.{◌≡◌, ℕ, List, subst}
use Rattle.ijvm_image.specs.Prelude.{IsImage}
use Rattle.verifier_facts.specs.Prelude.{VerifiedView}

pub image_by_parts : (v : VerifiedView) (text pool : List ℕ) → text ≡ v.image.text → pool ≡ v.image.pool → IsImage (record { text = text; pool = pool }) → IsImage v.image
image_by_parts v text pool e f h =
    let same : record { text = text; pool = pool } ≡ v.image = λ i. record { text = e i; pool = f i } in
    subst IsImage same h
