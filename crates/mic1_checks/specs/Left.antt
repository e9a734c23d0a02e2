-- What is known of the operands that an instruction leaves, and where TOS has to be the last of them.
use Rattle.std.specs.Prelude.{◌≡◌, ◌<◌, ◌+◌, ◌*◌, ℕ, List, [], length}
use Rattle.mic1_checks.specs.Common.{plus, wrap, byte_in, State, base, frames_of, Environment, Path}
use Rattle.mic1_checks.specs.declared.left.Operands.{Operands}
use Rattle.mic1_checks.specs.declared.left.Operands.TheVariants.{Unknown, Empty, Above}

-- this is true of the operands of the state to which the instruction leads
abbrev pub AreLeft : Environment → Operands → State → Type 0
AreLeft e Unknown to = Unit {0}
AreLeft e Empty to = to.running.operands ≡ []
AreLeft e (Above at) to = 0 < length to.running.operands → e.word at + 1 < base (frames_of to)

-- a path leads to this state, and its TOS has to be the last operand, which is at SP
pub record HasTop (e : Environment) (operands : Operands) (p : Path) (to : State) : Type 0 where
  pub left : AreLeft e operands to
  pub some : 0 < length to.running.operands
  pub sp : e.word p.symbols.sp + 1 ≡ base (frames_of to)

-- the index of the local that WIDE ISTORE at this address stores to
abbrev pub wide_index_in : List ℕ → ℕ → ℕ
wide_index_in words pc = plus (wrap (256 * byte_in words (plus pc 2))) (byte_in words (plus pc 3))
