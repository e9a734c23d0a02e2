-- Where a statement goes next: x is the result, and `byte` the one that a dispatch takes.
use Rattle.std.specs.Prelude.{◌≡◌, ℕ, ◌+◌, Bool, if◌then◌else◌, ◌==◌, IsTrue}
use Rattle.mic_words.specs.Prelude.{is_negative}
use Rattle.micro_word.specs.Prelude.{is_next, addr_bits, jam_bits}
use Rattle.micro_word.specs.declared.statement.Test.{Test}
use Rattle.micro_word.specs.declared.statement.Test.TheVariants as tests
use Rattle.micro_word.specs.declared.statement.PlacedNext.{PlacedNext}
use Rattle.micro_word.specs.declared.statement.PlacedNext.TheVariants as nexts

abbrev pub flag : Test → ℕ → Bool
flag tests.N x = is_negative x
flag tests.Z x = x == 0

abbrev pub next_address : PlacedNext → ℕ → ℕ → ℕ
next_address (nexts.Goto to) x byte = to
next_address (nexts.Dispatch high) x byte = if high then byte + 256 else byte
next_address (nexts.Branch test low) x byte = if flag test x then low + 256 else low

-- each statement whose next address has these bits goes there
abbrev pub GoesTo : ℕ → ℕ → ℕ → ℕ → ℕ → Type 0
GoesTo addr jam x byte to = (n : PlacedNext) → IsTrue (is_next n) → addr ≡ addr_bits n → jam ≡ jam_bits n → to ≡ next_address n x byte
