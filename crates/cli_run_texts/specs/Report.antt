-- The report of a run, as bytes: its end, its counts and the last boundary, and of a clocked run the registers. Words have 8 hexadecimal digits in lower case.
use Rattle.std.specs.Prelude.{ℕ, List, ◌++◌, Option, Some, None, codes}
use Rattle.std.specs.Fmt.{decimal}
use Rattle.mic_base.specs.Prelude.{hex_text}
use Rattle.mic_clock.specs.declared.end.End.{End}
use Rattle.mic_clock.specs.declared.end.End.TheVariants as ends
use Rattle.mic_clock.specs.declared.counts.Boundary.{Boundary}
use Rattle.mic_clock.specs.declared.counts.Counts.{Counts}
use Rattle.mic_clock.specs.declared.registers.Registers.{Registers}
use Rattle.mic_clock.specs.Prelude.{state_line}
use Rattle.ijvm_reference.specs.declared.plain.PlainReport.{PlainReport}
use Rattle.cli_run_texts.specs.Ends.{clocked_end, end_name}

abbrev pub boundary_line : Option Boundary → List ℕ
boundary_line None = codes "boundary none\n"
boundary_line (Some b) =
    codes "boundary " ++ decimal b.cycles ++ codes " at " ++ hex_text 8 b.at ++ codes " sp " ++ hex_text 8 b.sp ++ codes " lv " ++ hex_text 8 b.lv ++ codes "\n"

-- what follows the name of the end: the counts, and the last boundary
abbrev pub counts_text : ℕ → ℕ → Option Boundary → List ℕ
counts_text cycles instructions boundary =
    codes "\ncycles " ++ decimal cycles ++ codes " instructions " ++ decimal instructions ++ codes "\n"
    ++ boundary_line boundary

-- the three lines that begin each report
abbrev pub head : End → ℕ → ℕ → Option Boundary → List ℕ
head end cycles instructions boundary = codes "end " ++ end_name end ++ counts_text cycles instructions boundary

-- at a stack limit the cycles of the last boundary, if there was one
abbrev pub cycles_of : End → ℕ → Option Boundary → ℕ
cycles_of ends.StackLimit cycles (Some b) = b.cycles
cycles_of end cycles boundary = cycles

-- the first three lines of a clocked run, and of a run of the plain machine

abbrev pub clocked_head : End → Counts → List ℕ
clocked_head end c = head end (cycles_of end c.cycles c.boundary) c.instructions c.boundary

abbrev pub last_boundary : PlainReport → Boundary
last_boundary r = record { cycles = r.boundary; at = r.address; sp = r.sp; lv = r.lv }

abbrev pub plain_head : PlainReport → List ℕ
plain_head r = head (clocked_end r.end) r.cycles r.instructions (Some (last_boundary r))

abbrev pub report : End → Counts → Registers → List ℕ
report end c r = clocked_head end c ++ state_line r ++ codes "\n"

-- the report of a clocked run that a debugger left before its end
abbrev pub quit_report : Counts → Registers → List ℕ
quit_report c r = codes "end quit" ++ counts_text c.cycles c.instructions c.boundary ++ state_line r ++ codes "\n"

-- the report of a clocked run that has ended, or that a debugger left
abbrev pub left_report : Option End → Counts → Registers → List ℕ
left_report (Some end) c r = report end c r
left_report None c r = quit_report c r
