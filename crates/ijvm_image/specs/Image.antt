-- An image: the text, which holds methods' headers and instructions, and the constant pool.
use Rattle.ijvm_image.specs.declared.method.Method.{Method}
use Rattle.std.specs.Prelude.{ℕ, ◌+◌, ◌*◌, ◌<◌, ◌≤◌, ◌^◌, All, if◌then◌else◌, nat_lt, List, length, slice_index, Option, Some, None}

pub record ImageView : Type 0 where
  -- bytes, from byte address 0
  pub text : List ℕ
  -- words
  pub pool : List ℕ

-- the limits of both parts
pub record IsWithinLimits (text pool : List ℕ) : Type 0 where
  pub text_fits : length text ≤ 65536
  pub pool_fits : length pool ≤ 16384

-- the text is bytes, the pool words, and both are within the limits
pub record IsImage (image : ImageView) : Type 0 where
  pub bytes : All (λ b. b < 256) image.text
  pub words : All (λ w. w < 2 ^ 32) image.pool
  pub limits : IsWithinLimits image.text image.pool

-- A method begins at its entry with two counts of two bytes, its parameters with the object reference and its other locals, and its
-- code stands after them.

unfoldable pub params : List ℕ → ℕ → ℕ
params text entry = 256 * slice_index text entry + slice_index text (entry + 1)

unfoldable pub others : List ℕ → ℕ → ℕ
others text entry = 256 * slice_index text (entry + 2) + slice_index text (entry + 3)

-- the method at the entry that a constant holds, if its header and a byte of code stand inside the text
abbrev pub method_at : List ℕ → Option ℕ → Option Method
method_at text None = None
method_at text (Some entry) =
    if nat_lt (entry + 4) (length text) then Some (record { entry = entry; params = params text entry; others = others text entry }) else None
