-- Words in pages: a table says where the frame of each page begins among the frames, and the first frame, which no page owns, stays 0.
use Rattle.std.specs.Prelude.{◌≡◌, ◌≢◌, ℕ, ◌+◌, ◌*◌, ◌/◌, ◌%◌, ◌<◌, ◌≤◌, nat_lt, List, length, map, replicate, slice_index}
use Rattle.std.specs.List.{range_with_len, count_by}

-- where the word at an address is among the frames
abbrev pub place_in_frames : List ℕ → ℕ → ℕ
place_in_frames table at = slice_index table (at / 1024) + at % 1024

-- the memory that they keep
unfoldable pub words_of : List ℕ → List ℕ → ℕ → List ℕ
words_of table frames size = map (λ at. slice_index frames (place_in_frames table at)) (range_with_len 0 size)

-- the number of pages that have a frame
unfoldable pub framed : List ℕ → ℕ
framed table = count_by (λ start. nat_lt 0 start) table

-- Each page that has a frame has one of its own, and no other frames were made.
pub record ArePaged (table frames : List ℕ) (size : ℕ) : Type 0 where
  pub pages : size ≤ 1024 * length table
  pub frames_made : length frames ≡ 1024 * (framed table + 1)
  pub whole : (page : ℕ) → slice_index table page % 1024 ≡ 0
  pub taken : (page : ℕ) → slice_index table page < length frames
  pub own : (page other : ℕ) → slice_index table page ≢ 0 → slice_index table page ≡ slice_index table other → page ≡ other
  pub unmapped : (at : ℕ) → at < 1024 → slice_index frames at ≡ 0

-- each memory that the old table and frames keep, the new ones keep too
abbrev pub KeepsWords : List ℕ → List ℕ → List ℕ → List ℕ → Type 0
KeepsWords table frames table' frames' = (size : ℕ) → ArePaged table frames size → words_of table' frames' size ≡ words_of table frames size

-- a frame that was not written
unfoldable pub empty_frame : List ℕ
empty_frame = replicate 1024 0

-- this many words have room for the first frame and one for each page
abbrev pub HasRoom : List ℕ → ℕ → Type 0
HasRoom table room = 1024 * (length table + 1) ≤ room
