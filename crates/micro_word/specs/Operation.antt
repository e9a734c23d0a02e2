-- The sixteen operations and three shifts of chapter 4 as arithmetic of 32-bit words.
use Rattle.std.specs.Prelude.{ℕ, ◌+◌, ◌*◌, bit_and, bit_or}
use Rattle.mic_words.specs.Prelude.{wrap, plus, minus, next, before, negation, complement, half}
use Rattle.micro_word.specs.declared.statement.AluOp.{AluOp}
use Rattle.micro_word.specs.declared.statement.AluOp.TheVariants as ops
use Rattle.micro_word.specs.declared.statement.Shift.{Shift}
use Rattle.micro_word.specs.declared.statement.Shift.TheVariants as shifts

-- an operation's result for the words on its sides A and B
abbrev pub alu : AluOp → ℕ → ℕ → ℕ
alu ops.A a b = a
alu ops.B a b = b
alu ops.NotA a b = complement a
alu ops.NotB a b = complement b
alu ops.Sum a b = plus a b
alu ops.SumInc a b = next (a + b)
alu ops.IncA a b = next a
alu ops.IncB a b = next b
alu ops.Sub a b = minus b a
alu ops.DecB a b = before b
alu ops.NegA a b = negation a
alu ops.And a b = bit_and a b
alu ops.Or a b = bit_or a b
alu ops.Zero a b = 0
alu ops.One a b = 1
alu ops.MinusOne a b = 4294967295

-- the shifter's result
abbrev pub shifted : Shift → ℕ → ℕ
shifted shifts.None x = x
shifted shifts.Left8 x = wrap (256 * x)
shifted shifts.Right1 x = half x
