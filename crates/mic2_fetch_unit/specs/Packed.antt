-- The queue of fetched bytes as one number, the first byte lowest, as the fetch unit keeps it.
use Rattle.console_port.specs.Prelude.{byte_of}
use Rattle.std.specs.Prelude.{ℕ, zero, suc, ◌+◌, ◌*◌, ◌/◌, ◌%◌, List, [], ◌∷◌}

-- this many bytes of a register, from the lowest on
unfoldable pub bytes_in : ℕ → ℕ → List ℕ
bytes_in zero bits = []
bytes_in (suc n) bits = bits % 256 ∷ bytes_in n (bits / 256)

-- a word's bytes with the first one lowest
abbrev pub turned_word : ℕ → ℕ
turned_word word = byte_of word 0 + 256 * byte_of word 1 + 65536 * byte_of word 2 + 16777216 * byte_of word 3
