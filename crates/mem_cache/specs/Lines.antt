-- How a cache keeps its blocks: a line that holds a block has its words, as they are in memory.
use Rattle.std.specs.Prelude.{◌≡◌, ℕ, ◌+◌, ◌*◌, ◌%◌, ◌<◌, ◌≤◌, List, length, slice_get, slice_index, Option, Some, None}
use Rattle.mem_cache.specs.declared.lines.CacheLine.{CacheLine}

abbrev pub block_in : Option CacheLine → Option ℕ
block_in None = None
block_in (Some l) = Some l.block

-- the line of a block, which holds it
abbrev pub IsLineOf : List (Option CacheLine) → ℕ → CacheLine → Type 0
IsLineOf lines block l = (l.block ≡ block) × (slice_get lines (block % length lines) ≡ Some (Some l))

abbrev pub HasWords : List ℕ → Option CacheLine → Type 0
HasWords words None = Unit {0}
HasWords words (Some l) =
    (4 * l.block + 3 < length words) × (length l.words ≡ 4)
    × ((k : ℕ) → k < 4 → slice_index l.words k ≡ slice_index words (4 * l.block + k))

pub record AreLines (words : List ℕ) (lines : List (Option CacheLine)) : Type 0 where
  pub whole : length words % 4 ≡ 0
  pub some : 0 < length lines
  pub few : length lines ≤ 4096
  pub hold : (i : ℕ) (l : CacheLine) → slice_get lines i ≡ Some (Some l) → HasWords words (Some l)
  pub place : (i : ℕ) (l : CacheLine) → slice_get lines i ≡ Some (Some l) → l.block % length lines ≡ i
