-- What is printed of a microprogram that is proved: its cycles of the boot and of each instruction, beside those of the one that ships.
use Rattle.std.specs.Prelude.{ℕ, List, [], ◌∷◌, ◌++◌, codes}
use Rattle.std.specs.Fmt.{decimal}
use Rattle.mic_words.specs.declared.machine.Machine.TheVariants.{Mic1}
use Rattle.ijvm_instr.specs.declared.instr.Instr.{Instr}
use Rattle.ijvm_instr.specs.declared.instr.TheConstants.{INSTRUCTIONS}
use Rattle.ijvm_instr.specs.declared.row.Cost.{Cost}
use Rattle.ijvm_instr.specs.declared.row.Cost.TheVariants.{Always, IfTaken, ByEntry}
use Rattle.ijvm_instr.specs.Instructions.{mnemonic_of}
use Rattle.ijvm_meaning.specs.Cost.{Timing, timing_of}
use Rattle.mic1_checks.specs.declared.judged.Costs.{Costs}
use Rattle.mic1_checks.specs.Spent.{timing_by}

-- what the microprogram that ships spends
abbrev pub shipped : Timing
shipped = timing_of Mic1

-- what a microprogram with these costs spends: the timing with which it interprets IJVM
abbrev pub own : Costs → Timing
own costs = timing_by costs shipped

abbrev pub cost_text : Cost → List ℕ
cost_text (Always cycles) = decimal cycles
cost_text (IfTaken jumps falls) = decimal jumps ++ codes " taken, " ++ decimal falls ++ codes " not"
cost_text (ByEntry early late) = decimal early ++ codes ", or " ++ decimal late ++ codes " where the entry mod 4 is 3"

-- `NAME CYCLES (shipped CYCLES)`
abbrev pub row_line : List ℕ → Cost → Cost → List ℕ
row_line name is ships = name ++ codes " " ++ cost_text is ++ codes " (shipped " ++ cost_text ships ++ codes ")\n"

abbrev pub boot_line : Costs → List ℕ
boot_line costs = row_line (codes "boot") (Always (own costs).boot) (Always shipped.boot)

abbrev pub instr_line : Costs → Instr → List ℕ
instr_line costs i = row_line (mnemonic_of i) ((own costs).of i) (shipped.of i)

abbrev pub rows_text : Costs → List Instr → List ℕ
rows_text costs [] = []
rows_text costs (i ∷ rest) = instr_line costs i ++ rows_text costs rest

abbrev pub proved_line : List ℕ
proved_line = codes "proved: with this microprogram Mic-1 interprets IJVM, for every accepted program, input and bound, in these cycles\n"

-- a row for each instruction, in the order of a profile
abbrev pub proved_text : Costs → List ℕ
proved_text costs = proved_line ++ boot_line costs ++ rows_text costs INSTRUCTIONS
