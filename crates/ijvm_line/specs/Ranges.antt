-- The numbers of a line: which are in range, and what they make of its instruction.
use Rattle.std.specs.Prelude.{ℕ, ℤ, pos, negsuc, ◌-◌, ◌-ℤ◌, ◌||◌, Bool, Option, Some, None, Result, Ok, Err, nat_lt, if◌then◌else◌}
use Rattle.ijvm_instr.specs.declared.instr.Instr.{Instr}
use Rattle.ijvm_instr.specs.declared.instr.Instr.TheVariants as instrs
use Rattle.ijvm_line.specs.declared.line.LineFault.{LineFault}
use Rattle.ijvm_line.specs.declared.line.LineFault.TheVariants as faults
use Rattle.ijvm_line.specs.declared.mnemonic.Access.{Access}
use Rattle.ijvm_line.specs.declared.mnemonic.Access.TheVariants as accesses
use Rattle.ijvm_line.specs.declared.statement.Operand.{Operand}
use Rattle.ijvm_line.specs.declared.statement.Operand.TheVariants as operands
use Rattle.ijvm_line.specs.declared.statement.Statement.{Statement}
use Rattle.ijvm_line.specs.declared.statement.Statement.TheVariants as statements
use Rattle.ijvm_line.specs.declared.instruction.Instruction.{Instruction}
use Rattle.ijvm_line.specs.declared.instruction.Instruction.TheVariants as instructions

-- -128 to 255; 128 to 255 give the same byte as 256 less
abbrev pub byte_of : ℤ → Option ℤ
byte_of (pos n) = if nat_lt n 128 then Some (pos n) else (if nat_lt n 256 then Some (pos n -ℤ pos 256) else None)
byte_of (negsuc n) = if nat_lt n 128 then Some (negsuc n) else None

-- 0 to 65535
abbrev pub index_of : ℤ → Option ℕ
index_of (pos n) = if nat_lt n 65536 then Some n else None
index_of (negsuc n) = None

-- -32768 to 32767
abbrev pub addend_of : ℤ → Option ℤ
addend_of (pos n) = if nat_lt n 32768 then Some (pos n) else None
addend_of (negsuc n) = if nat_lt n 32768 then Some (negsuc n) else None

-- -2147483648 to 4294967295, as a word: a number below zero and the one that is 4294967296 more are the same
abbrev pub word_in_range : ℤ → Option ℕ
word_in_range (pos n) = if nat_lt n 0x1_0000_0000 then Some n else None
word_in_range (negsuc n) = if nat_lt n 0x8000_0000 then Some (0xFFFF_FFFF - n) else None

abbrev pub in_range : {A : Type 0} → Option A → Result A LineFault
in_range (Some a) = Ok a
in_range None = Err faults.OutOfRange

-- a number that cannot be read, or is out of its range
abbrev pub number : {A : Type 0} → (ℤ → Option A) → Option ℤ → Result A LineFault
number range None = Err faults.BadNumber
number range (Some v) = in_range (range v)

abbrev pub byte : Option ℤ → Result ℤ LineFault
byte = number byte_of

abbrev pub index : Option ℤ → Result ℕ LineFault
index = number index_of

abbrev pub addend : Option ℤ → Result ℤ LineFault
addend = number addend_of

abbrev pub word : Option ℤ → Result ℕ LineFault
word = number word_in_range

abbrev pub made : {A B : Type 0} → (A → B) → Result A LineFault → Result B LineFault
made f (Ok a) = Ok (f a)
made f (Err e) = Err e

-- WIDE stands before it, or the index is above 255
abbrev pub is_wide : Bool → ℕ → Bool
is_wide wide k = wide || nat_lt 255 k

abbrev pub wide_instr : Access → ℕ → Instr
wide_instr accesses.Load k = instrs.WideIload k
wide_instr accesses.Store k = instrs.WideIstore k

abbrev pub narrow_instr : Access → ℕ → Instr
narrow_instr accesses.Load k = instrs.Iload k
narrow_instr accesses.Store k = instrs.Istore k

-- the wide form where it is forced, and for an index above 255
abbrev pub access_instr : Access → Bool → ℕ → Instr
access_instr access wide k = if is_wide wide k then wide_instr access k else narrow_instr access k

abbrev pub short_increment : ℕ → ℤ → Option ℤ → Instr
short_increment k by (Some b) = instrs.Iinc k b
short_increment k by None = instrs.WideIinc k by

-- the wide form where it is forced, for an index above 255, and for a number that is no byte
abbrev pub increment_instr : Bool → ℕ → ℤ → Instr
increment_instr wide k by = if is_wide wide k then instrs.WideIinc k by else short_increment k by (byte_of by)

abbrev pub push : Option ℤ → Result Instruction LineFault
push value = made (λ b. instructions.Plain (instrs.Bipush b)) (byte value)

abbrev pub constant : Operand → Result Instruction LineFault
constant (operands.Name name) = Ok (instructions.Constant name)
constant (operands.Number value) = made (λ k. instructions.Plain (instrs.LdcW k)) (index value)

abbrev pub local : Access → Bool → Operand → Result Instruction LineFault
local access wide (operands.Name name) = Ok (instructions.Local access wide name)
local access wide (operands.Number value) = made (λ k. instructions.Plain (access_instr access wide k)) (index value)

abbrev pub increment_by : Bool → Result ℕ LineFault → Option ℤ → Result Instruction LineFault
increment_by wide (Ok k) by = made (λ n. instructions.Plain (increment_instr wide k n)) (addend by)
increment_by wide (Err e) by = Err e

-- the left number comes first
abbrev pub increment : Bool → Operand → Option ℤ → Result Instruction LineFault
increment wide (operands.Name name) by = made (λ n. instructions.Increment wide name n) (addend by)
increment wide (operands.Number value) by = increment_by wide (index value) by

-- the instruction that is spelled so, or the refusal of its first number with one
abbrev pub instruction_of : Statement → Result Instruction LineFault
instruction_of (statements.Plain instr) = Ok (instructions.Plain instr)
instruction_of (statements.Push value) = push value
instruction_of (statements.Constant operand) = constant operand
instruction_of (statements.Local access wide operand) = local access wide operand
instruction_of (statements.Increment wide operand by) = increment wide operand by
instruction_of (statements.Jump jump label) = Ok (instructions.Jump jump label)
instruction_of (statements.Call method) = Ok (instructions.Call method)
