-- What the reader computes, step by step from the front of a file: it stops at the first refusal.
use Rattle.std.specs.Prelude.{◌≤◌, ℕ, zero, suc, ◌+◌, ◌-◌, ◌/◌, if◌then◌else◌, nat_lt, nat_le, ◌==◌, List, [], ◌∷◌, length, slice_range, Option, Some, None, Result, Ok, Err}
use Rattle.ijvm_image.specs.declared.reader.Block.{Block}
use Rattle.ijvm_image.specs.declared.image.ImageError.{ImageError}
use Rattle.ijvm_image.specs.declared.image.ImageError.TheVariants as errors
use Rattle.ijvm_image.specs.Image.{ImageView}
use Rattle.ijvm_image.specs.ImageFile.{magic, text_origin, word_at, is_origin, is_size}

abbrev pub and_then : {A B : Type 0} → Result A ImageError → (A → Result B ImageError) → Result B ImageError
and_then (Ok x) next = next x
and_then (Err e) next = Err e

-- the word of a field, which the file's end may cut
abbrev pub field : List ℕ → ℕ → Result ℕ ImageError
field file place = if nat_le (place + 4) (length file) then Ok (word_at file place) else Err (errors.Truncated (length file))

abbrev pub block_from : List ℕ → ℕ → ℕ → ℕ → Result Block ImageError
block_from file origin from size =
    if is_size origin size
    then (if nat_le (from + size) (length file) then Ok (record { origin = origin; from = from; to = from + size }) else Err (errors.Truncated (length file)))
    else Err (errors.BadSize size)

-- the block at a place
abbrev pub block_at : List ℕ → ℕ → Option ℕ → Result Block ImageError
block_at file place first =
    and_then (field file place) (λ origin.
    if is_origin first origin
    then and_then (field file (place + 4)) (λ size. block_from file origin (place + 8) size)
    else Err (errors.BadOrigin origin))

-- a block's bytes lie in the file, and are as few as a size allows
pub record IsWithin (file : List ℕ) (b : Block) : Type 0 where
  pub ordered : b.from ≤ b.to
  pub inside : b.to ≤ length file
  pub small : b.to ≤ b.from + 65536

-- this many words from a place on
abbrev pub words_at : List ℕ → ℕ → ℕ → List ℕ
words_at file place zero = []
words_at file place (suc n) = word_at file place ∷ words_at file (place + 4) n

abbrev pub image_of : List ℕ → Block → Block → ImageView
image_of file text pool = record { text = slice_range file text.from text.to; pool = words_at file pool.from ((pool.to - pool.from) / 4) }

-- the image of both blocks
abbrev pub joined : List ℕ → Block → Block → ImageView
joined file first second = if first.origin == text_origin then image_of file first second else image_of file second first

abbrev pub ended : List ℕ → Block → Block → Result ImageView ImageError
ended file first second = if nat_lt second.to (length file) then Err (errors.Trailing second.to) else Ok (joined file first second)

abbrev pub image_read : List ℕ → Result ImageView ImageError
image_read file =
    and_then (field file 0) (λ word.
    if word == magic
    then and_then (block_at file 4 None) (λ first. and_then (block_at file first.to (Some first.origin)) (λ second. ended file first second))
    else Err errors.BadMagic)
