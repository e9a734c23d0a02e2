-- The text of an instruction: its mnemonic and its operands in decimal; a jump has its target's address in hexadecimal.
use Rattle.std.specs.Prelude.{ℕ, ℤ, pos, List, [], ◌∷◌, ◌++◌}
use Rattle.std.specs.Fmt.{signed_decimal}
use Rattle.mic_base.specs.Prelude.{hex_text}
use Rattle.ijvm_instr.specs.declared.instr.Instr.{Instr}
use Rattle.ijvm_instr.specs.declared.row.Operands.{Operands}
use Rattle.ijvm_instr.specs.declared.row.Operands.TheVariants.{None as NoOperands, Byte, Local, LocalByte, Index, IndexHalf, Offset}
use Rattle.ijvm_instr.specs.Instructions.{row_of, mnemonic_of, target}

-- a space and a number
abbrev pub number_text : ℤ → List ℕ
number_text z = 32 ∷ signed_decimal z

-- the operands of an instruction at this address
abbrev pub operand_text : ℕ → Operands → List ℕ
operand_text at NoOperands = []
operand_text at (Byte b) = number_text b
operand_text at (Local k) = number_text (pos k)
operand_text at (LocalByte k b) = number_text (pos k) ++ number_text b
operand_text at (Index k) = number_text (pos k)
operand_text at (IndexHalf k n) = number_text (pos k) ++ number_text n
operand_text at (Offset o) = 32 ∷ hex_text 8 (target at o)

abbrev pub instr_text : Instr → ℕ → List ℕ
instr_text i at = mnemonic_of i ++ operand_text at (row_of i).operands
