-- When what is known of a start is true of it.
use Rattle.std.specs.Prelude.{◌≡◌, ◌≤◌, ◌<◌, ℕ, length, slice_index}
use Rattle.mic1_cycles.specs.Common.{All, byte_in, console_at, IsIn, Environment}
use Rattle.mic1_cycles.specs.declared.known.Known.{Known}

-- the word of the second number stands in memory, at the address that the first one stands for
pub record StandsAt (e : Environment) (at number : ℕ) : Type 0 where
  pub inside : e.word at < length e.start.words
  pub is : slice_index e.start.words (e.word at) ≡ e.word number

-- memory has the text and the pool, and is not so long that it has the console's address
pub record Knows (e : Environment) (k : Known) : Type 0 where
  pub ranges : IsIn e.word k.ranges.items
  pub long : 0x8000 ≤ length e.start.words
  pub size : length e.start.words ≤ console_at
  pub bytes : All (λ b. byte_in e.start.words (e.word b.at) ≡ b.byte) k.bytes.items
  pub words : All (λ w. StandsAt e w.at w.number) k.words.items
