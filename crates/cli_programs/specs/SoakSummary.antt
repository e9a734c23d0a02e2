-- The summary of a generated program's run: the size of its text, the first three lines of the run's report, and TOS as a signed number.
use Rattle.std.specs.Prelude.{ℕ, List, ◌++◌, codes}
use Rattle.cli_programs.specs.Common.{w32, cast_signed, decimal, signed_decimal, End, Counts, clocked_head}

abbrev pub soak_summary : ℕ → End → Counts → ℕ → List ℕ
soak_summary size end counts tos =
    codes "text " ++ decimal size ++ codes "\n" ++ clocked_head end counts ++ codes "tos " ++ signed_decimal (cast_signed w32 tos) ++ codes "\n"
