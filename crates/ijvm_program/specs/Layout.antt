-- The instruction of a line, its size, and where it stands in the code of its unit.
use Rattle.std.specs.Prelude.{ℕ, ◌+◌, ℤ, pos, List, take, sum_by}
use Rattle.ijvm_instr.specs.declared.instr.Instr.{Instr}
use Rattle.ijvm_instr.specs.declared.instr.Instr.TheVariants as instrs
use Rattle.ijvm_instr.specs.Prelude.{row_of, size_of}
use Rattle.ijvm_program.specs.declared.line.CodeLine.{CodeLine}
use Rattle.ijvm_program.specs.declared.line.Jump.{Jump}
use Rattle.ijvm_program.specs.declared.line.Jump.TheVariants.{Ifeq, Iflt, IfIcmpeq, Goto}
use Rattle.ijvm_program.specs.declared.line.Operation.{Operation}
use Rattle.ijvm_program.specs.declared.line.Operation.TheVariants.{Plain, Constant, Call, To}

-- the instruction that jumps so far
abbrev pub jump_by : Jump → ℤ → Instr
jump_by Ifeq distance = instrs.Ifeq distance
jump_by Iflt distance = instrs.Iflt distance
jump_by IfIcmpeq distance = instrs.IfIcmpeq distance
jump_by Goto distance = instrs.Goto distance

-- the instruction of an operation, where the methods' entries begin at this index of the pool and a label stands so far away
abbrev pub instr_of : ℕ → ℤ → Operation → Instr
instr_of first distance (Plain instr) = instr
instr_of first distance (Constant index) = instrs.LdcW index
instr_of first distance (Call index) = instrs.Invokevirtual (first + index)
instr_of first distance (To jump target) = jump_by jump distance

-- the size of a line's instruction, in bytes; it does not depend on where anything stands
abbrev pub line_size : CodeLine → ℕ
line_size line = size_of (row_of (instr_of 0 (pos 0) line.operation))

-- the address of the line at this position in its unit's own code
abbrev pub line_address : List CodeLine → ℕ → ℕ
line_address lines position = sum_by line_size (take position lines)
