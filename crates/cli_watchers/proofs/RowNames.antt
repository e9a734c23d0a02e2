-- Each row has the name of its instructions.
use Rattle.cli_watchers.proofs.Common.{◌≡◌, refl, Instr, mnemonic_of, row_name, row_number}
use Rattle.ijvm_instr.specs.declared.instr.Instr.TheVariants as instrs

pub named : (i : Instr) → row_name (row_number i) ≡ mnemonic_of i
named instrs.Nop = refl
named _ = refl
