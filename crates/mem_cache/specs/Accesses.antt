-- Which accesses are hits in a direct-mapped cache: a read or fetch of memory is one where the last earlier one on its line was of the same block
-- (Tanenbaum, section 4.5.1, "Direct-Mapped Caches").
use Rattle.std.specs.Prelude.{ℕ, ◌+◌, ◌/◌, ◌%◌, ◌==◌, nat_lt, if◌then◌else◌, Bool, false, List, [], ◌∷◌, Option, Some, None}

-- an access that was answered: of the word at a word address, or of the byte at a byte address
pub data Access : Type 0 where
  Read : (at : ℕ) → Access
  Write : (at : ℕ) → Access
  Fetch : (byte : ℕ) → Access

-- the block of a word; four words are a block
abbrev pub block_of : ℕ → ℕ
block_of at = at / 4

-- the block that an access of `size` words of memory asks for: reads and fetches do, writes and the console do not
abbrev pub asks_for : ℕ → Access → Option ℕ
asks_for size (Read at) = if nat_lt at size then Some (block_of at) else None
asks_for size (Write at) = None
asks_for size (Fetch byte) = if nat_lt (byte / 4) size then Some (block_of (byte / 4)) else None

-- a block before others, where there is one
abbrev pub with_block : Option ℕ → List ℕ → List ℕ
with_block None blocks = blocks
with_block (Some block) blocks = block ∷ blocks

-- the blocks that accesses ask for, in order
abbrev pub blocks_of : ℕ → List Access → List ℕ
blocks_of size [] = []
blocks_of size (a ∷ rest) = with_block (asks_for size a) (blocks_of size rest)

abbrev pub is_block : ℕ → Option ℕ → Bool
is_block block None = false
is_block block (Some other) = other == block

module _ (lines : ℕ) where
  -- the line that a block belongs to
  abbrev pub line_of : ℕ → ℕ
  line_of block = block % lines

  -- the last of the earlier blocks that belongs to a line; the latest stands first
  abbrev pub last_on : ℕ → List ℕ → Option ℕ
  last_on line [] = None
  last_on line (block ∷ earlier) = if line_of block == line then Some block else last_on line earlier

  abbrev pub is_hit : List ℕ → ℕ → Bool
  is_hit earlier block = is_block block (last_on (line_of block) earlier)

  -- the hits among these blocks, after the earlier ones
  abbrev pub hits_after : List ℕ → List ℕ → ℕ
  hits_after earlier [] = 0
  hits_after earlier (block ∷ blocks) = (if is_hit earlier block then 1 else 0) + hits_after (block ∷ earlier) blocks

  -- the misses among them
  abbrev pub misses_after : List ℕ → List ℕ → ℕ
  misses_after earlier [] = 0
  misses_after earlier (block ∷ blocks) = (if is_hit earlier block then 0 else 1) + misses_after (block ∷ earlier) blocks

-- the hits and the misses of accesses, by a cache of this many lines that begins empty, in front of this many words of memory
abbrev pub hits_of : ℕ → ℕ → List Access → ℕ
hits_of lines size accesses = hits_after lines [] (blocks_of size accesses)

abbrev pub misses_of : ℕ → ℕ → List Access → ℕ
misses_of lines size accesses = misses_after lines [] (blocks_of size accesses)
