-- A loaded image: its text in the memory from byte 0, and its pool from the map's address for it.
use Rattle.std.specs.Prelude.{◌≡◌, ◌⊎◌, ℕ, ◌+◌, ◌*◌, ◌/◌, ◌^◌, ◌<◌, ◌≤◌, List, length, slice_index}
use Rattle.console_port.specs.declared.map.TheConstants.{POOL}
use Rattle.console_port.specs.World.{byte_in}

-- the word that four bytes make, the most significant first
abbrev pub big_endian_word : ℕ → ℕ → ℕ → ℕ → ℕ
big_endian_word a b c d = 16777216 * a + 65536 * b + 256 * c + d

-- word `at` of a text, with zeros after its end
abbrev pub text_word : List ℕ → ℕ → ℕ
text_word text at =
    big_endian_word (slice_index text (4 * at)) (slice_index text (4 * at + 1)) (slice_index text (4 * at + 2)) (slice_index text (4 * at + 3))

-- each word of a text stands in a memory, from word 0 on
abbrev pub HasTextWords : List ℕ → List ℕ → Type 0
HasTextWords text words = (at : ℕ) → 4 * at < length text → slice_index words at ≡ text_word text at

-- each word outside this range stays
abbrev pub StaysOutside : ℕ → ℕ → List ℕ → List ℕ → Type 0
StaysOutside from to old new = (at : ℕ) → (at < from) ⊎ (to ≤ at) → slice_index new at ≡ slice_index old at

-- An image was loaded into a memory, whose words are below 2^32. The text's last word is filled up with zeros, and every other word stays.
pub record IsLoaded (text pool old new : List ℕ) : Type 0 where
  pub words : (at : ℕ) → slice_index new at < 2 ^ 32
  pub size : length new ≡ length old
  pub text_bytes : (byte : ℕ) → 4 * (byte / 4) < length text → byte_in new byte ≡ slice_index text byte
  pub pool_words : (k : ℕ) → k < length pool → slice_index new (POOL + k) ≡ slice_index pool k
  pub others : (at : ℕ) → length text ≤ 4 * at → (at < POOL) ⊎ (POOL + length pool ≤ at) → slice_index new at ≡ slice_index old at
