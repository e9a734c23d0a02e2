-- A boundary of an accepted image's run, at which an instruction comes next.
use Rattle.std.specs.Prelude.{◌≡◌, ◌==◌, ◌||◌, ◌&&◌, ◌+◌, ◌<◌, ℕ, Bool, false, Option, Some, None, length, slice_index}
use Rattle.mic1_checks.specs.Common.{plus, byte_in, Instr, State, VerifiedView, Micro, mic1_meaning, Origin, IsAt, RegistersStand, Moment, Loads, Fine, IsNext}
use Rattle.mic1_checks.specs.Common.{Environment, Known, Symbols, Knows, StandsAt}
use Rattle.mic1_checks.specs.declared.instruction.Instruction.{Instruction}
use Rattle.mic1_checks.specs.Ready.{IsReadyOrArriving}
use Rattle.mic1_checks.specs.Start.{IsStart}
use Rattle.mic1_checks.specs.Words.{HasWords}

-- the byte after WIDE is that of ISTORE
abbrev pub is_wide_istore : Option ℕ → Bool
is_wide_istore None = false
is_wide_istore (Some byte) = byte == 0x36

-- each instruction with this opcode, and after WIDE with this byte, takes an operand or copies one: ISTORE, POP, DUP, SWAP, IADD, ISUB, IAND,
-- IOR by each of its opcodes, IFEQ, IFLT, IF_ICMPEQ, IRETURN, OUT, WIDE ISTORE
abbrev pub takes_operand : ℕ → Option ℕ → Bool
takes_operand opcode second =
    opcode == 0x36 || opcode == 0x57 || opcode == 0x59 || opcode == 0x5F || opcode == 0x60 || opcode == 0x64 || opcode == 0x7E
    || opcode == 0x80 || opcode == 0xB0 || opcode == 0x99 || opcode == 0x9B || opcode == 0x9F || opcode == 0xAC || opcode == 0xFD
    || (opcode == 0xC4 && is_wide_istore second)

-- the bytes of the instruction's kind stand where this state goes on
pub record Suits (n : Instruction) (o : Origin) (s : State) : Type 0 where
  pub opcode : byte_in o.words s.at ≡ n.opcode
  pub second : (b : ℕ) → n.second ≡ Some b → byte_in o.words (s.at + 1) ≡ b

-- a Mic-1 with this entry stands at this instruction of a verified image's run, and holds words
pub record StandsBefore (entry : ℕ) (v : VerifiedView) (o : Origin) (s : State) (q : Moment Micro) (i : Instr) : Type 0 where
  pub loads : Loads v o
  pub fine : Fine v s
  pub next : IsNext v o s i
  pub at : IsAt mic1_meaning IsReadyOrArriving entry o s q.state q.world
  pub words : HasWords q.state q.world

-- symbols start at such an instruction
pub record StartsBefore (e : Environment) (n : Instruction) (x : Symbols) (i : Instr) : Type 0 where
  pub start : IsStart e n.opcode x
  pub v : VerifiedView
  pub o : Origin
  pub loads : Loads v o
  pub s : State
  pub next : IsNext v o s i
  pub suits : Suits n o s
  pub pc : e.word x.pc ≡ s.at
  pub holds : RegistersStand o s (e.word x.sp) (e.word x.lv) (e.word x.cpp) (e.word x.tos) e.start
  pub words : (k : ℕ) → slice_index e.start.words k < 4294967296

-- what is known is true where a run starts, and memory holds words there
pub record IsKnown (e : Environment) (k : Known) : Type 0 where
  pub knows : Knows e k
  pub words : (i : ℕ) → slice_index e.start.words i < 4294967296

-- where the symbols start, memory has the bytes of the instruction's kind
pub record HasBytes (e : Environment) (n : Instruction) (x : Symbols) : Type 0 where
  pub opcode : byte_in e.start.words (e.word x.pc) ≡ n.opcode
  pub second : (b : ℕ) → n.second ≡ Some b → byte_in e.start.words (plus (e.word x.pc) 1) ≡ b

-- where the symbols start, the last operand is in TOS and at SP, and memory has the word below it
pub record HasOperand (e : Environment) (x : Symbols) : Type 0 where
  pub top : StandsAt e x.sp x.tos
  pub below : plus (e.word x.sp) 0xFFFFFFFF < length e.start.words
