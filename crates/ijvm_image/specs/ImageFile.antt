-- The image file: a magic word, then the pool's block and the text's block in either order. A block is its origin, its size in bytes
-- and its bytes. A word has its most significant byte first.
use Rattle.std.specs.Prelude.{◌≡◌, ◌⊎◌, ◌&&◌, ◌||◌, not, ℕ, ◌+◌, ◌*◌, ◌/◌, ◌%◌, Bool, if◌then◌else◌, nat_lt, nat_le, ◌==◌, List, [], ◌∷◌, ◌++◌, length, slice_index, Option, Some, None, Result, Ok, Err}
use Rattle.std.specs.List.{flat_map}
use Rattle.ijvm_image.specs.declared.image.ImageError.{ImageError}
use Rattle.ijvm_image.specs.declared.image.ImageError.TheVariants as errors
use Rattle.ijvm_instr.specs.Prelude.{two_bytes}
use Rattle.ijvm_image.specs.Image.{ImageView, IsWithinLimits}

abbrev pub magic : ℕ
magic = 0x1DEADFAD

abbrev pub text_origin : ℕ
text_origin = 0

abbrev pub pool_origin : ℕ
pool_origin = 0x10000

abbrev pub word_bytes : ℕ → List ℕ
word_bytes w = two_bytes (w / 65536) ++ two_bytes (w % 65536)

abbrev pub block_of : ℕ → List ℕ → List ℕ
block_of origin bytes = word_bytes origin ++ (word_bytes (length bytes) ++ bytes)

abbrev pub text_block : ImageView → List ℕ
text_block image = block_of text_origin image.text

abbrev pub pool_block : ImageView → List ℕ
pool_block image = block_of pool_origin (flat_map word_bytes image.pool)

-- the file as it is written
abbrev pub file_of : ImageView → List ℕ
file_of image = word_bytes magic ++ (pool_block image ++ text_block image)

abbrev pub text_first : ImageView → List ℕ
text_first image = word_bytes magic ++ (text_block image ++ pool_block image)

abbrev pub IsFileOf : List ℕ → ImageView → Type 0
IsFileOf file image = (file ≡ file_of image) ⊎ (file ≡ text_first image)

-- The fields of a file. A byte past its end counts as 0.

-- the number of the two bytes there
abbrev pub half_at : List ℕ → ℕ → ℕ
half_at file place = 256 * slice_index file place + slice_index file (place + 1)

abbrev pub word_at : List ℕ → ℕ → ℕ
word_at file place = 65536 * half_at file place + half_at file (place + 2)

-- Refusals. Each row has a condition on a file, and the refusal for it; the first row that holds has the file's refusal.

-- the file ends before this place
abbrev pub is_cut : List ℕ → ℕ → Bool
is_cut file place = not (nat_le place (length file))

-- an origin that a block may have after a first block, if there was one
abbrev pub is_origin : Option ℕ → ℕ → Bool
is_origin None origin = (origin == text_origin) || (origin == pool_origin)
is_origin (Some first) origin = ((origin == text_origin) || (origin == pool_origin)) && not (origin == first)

abbrev pub is_size : ℕ → ℕ → Bool
is_size origin size = nat_le size 65536 && ((origin == text_origin) || (size % 4 == 0))

-- the block that begins at this place: its origin, its size and its bytes; `rows` are those after it
abbrev pub block_rows : List ℕ → ℕ → Option ℕ → List (Bool × ImageError) → List (Bool × ImageError)
block_rows file place first rows =
    (is_cut file (place + 4), errors.Truncated (length file)) ∷
    (not (is_origin first (word_at file place)), errors.BadOrigin (word_at file place)) ∷
    (is_cut file (place + 8), errors.Truncated (length file)) ∷
    (not (is_size (word_at file place) (word_at file (place + 4))), errors.BadSize (word_at file (place + 4))) ∷
    (is_cut file (place + 8 + word_at file (place + 4)), errors.Truncated (length file)) ∷ rows

-- where the block that begins at this place ends
abbrev pub block_end : List ℕ → ℕ → ℕ
block_end file place = place + 8 + word_at file (place + 4)

abbrev pub refusals : List ℕ → List (Bool × ImageError)
refusals file =
    (is_cut file 4, errors.Truncated (length file)) ∷
    (not (word_at file 0 == magic), errors.BadMagic) ∷
    block_rows file 4 None
    (block_rows file (block_end file 4) (Some (word_at file 4))
    ((nat_lt (block_end file (block_end file 4)) (length file), errors.Trailing (block_end file (block_end file 4))) ∷ []))

abbrev pub first_refusal : List (Bool × ImageError) → Option ImageError
first_refusal [] = None
first_refusal (row ∷ rows) = if row.0 then Some row.1 else first_refusal rows

-- the file is refused so
abbrev pub IsRefused : List ℕ → ImageError → Type 0
IsRefused file e = first_refusal (refusals file) ≡ Some e

-- ---- a file says one thing

-- the file is that of at most one image within the limits
abbrev pub IsOfOneImage : List ℕ → Type 0
IsOfOneImage file = (p q : ImageView) → IsWithinLimits p.text p.pool → IsWithinLimits q.text q.pool → IsFileOf file p → IsFileOf file q → p ≡ q

-- the file of such an image is not refused
abbrev pub IsNeverBoth : List ℕ → Type 0
IsNeverBoth file = (p : ImageView) (e : ImageError) → IsWithinLimits p.text p.pool → IsFileOf file p → IsRefused file e → ⊥

-- the result is the image within the limits of which this is the file, unless memory ran out
abbrev pub ReadsImage : List ℕ → Result ImageView ImageError → Type 0
ReadsImage file answer = (image : ImageView) → IsWithinLimits image.text image.pool → IsFileOf file image →
    (answer ≡ Ok image) ⊎ (answer ≡ Err errors.OutOfMemory)
