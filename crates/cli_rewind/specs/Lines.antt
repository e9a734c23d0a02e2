-- The lines of a session, as bytes.
use Rattle.std.specs.Prelude.{ℕ, Bool, List, [], ◌++◌, Option, Some, None, codes, if◌then◌else◌}
use Rattle.cli_rewind.specs.Common.{decimal, hex_text, End, Moment, CommandError, BadCommand, BadNumber, end_line}

-- the cycles at a moment, and the address of the word that comes next
unfoldable pub cycle_line : Moment → List ℕ
cycle_line at = codes "cycle " ++ decimal at.counts.cycles ++ codes " mpc " ++ hex_text 3 at.registers.mpc ++ codes "\n"

abbrev pub end_text : Option End → List ℕ
end_text None = []
end_text (Some end) = end_line end

-- after cycles forward, which came to this end, or to none
abbrev pub forward_text : Option End → Moment → List ℕ
forward_text end at = cycle_line at ++ end_text end

-- after cycles back, which were as many as were asked for, or fewer
abbrev pub back_text : Bool → Moment → List ℕ
back_text all at = cycle_line at ++ (if all then [] else codes "? history ends\n")

abbrev pub refusal_text : CommandError → List ℕ
refusal_text BadCommand = codes "? bad command\n"
refusal_text BadNumber = codes "? bad number\n"
