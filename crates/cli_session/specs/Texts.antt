-- Lines that sessions print. Words have 8 hexadecimal digits in lower case.
use Rattle.std.specs.Prelude.{ℕ, List, ◌++◌, codes, slice_get, unwrap_or}
use Rattle.mic_base.specs.Prelude.{hex_text}
use Rattle.mic_clock.specs.declared.end.End.{End}
use Rattle.mic_clock.specs.declared.registers.Registers.{Registers}
use Rattle.mic_clock.specs.Prelude.{state_line}
use Rattle.cli_run_texts.specs.Prelude.{end_name}

unfoldable pub end_line : End → List ℕ
end_line e = codes "end " ++ end_name e ++ codes "\n"

abbrev pub state_text : Registers → List ℕ
state_text r = state_line r ++ codes "\n"

-- the address and the value of a memory word
abbrev pub word_text : ℕ → ℕ → List ℕ
word_text at value = hex_text 8 at ++ codes " " ++ hex_text 8 value ++ codes "\n"

-- the address and the value of a word of a memory
abbrev pub word_line : List ℕ → ℕ → List ℕ
word_line memory at = word_text at (unwrap_or (slice_get memory at) 0)
