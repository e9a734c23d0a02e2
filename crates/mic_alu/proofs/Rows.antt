-- For each row of the table the gates give the operation's arithmetic.
use Rattle.mic_alu.proofs.Common.{◌≡◌, ℕ, ◌-◌, ◌^◌, ◌<◌, refl, ◌∙◌, arith, xor_zero_r, or_zero_r, xor_add_and, and_mask, wrap, gates, controls_of, AluOp}
use Rattle.std.specs.Int.Bits.{bit_xor}
use Rattle.micro_word.specs.Prelude.{alu, row}
use Rattle.micro_word.specs.declared.statement.AluOp.TheVariants as ops

xor_ones : (a : ℕ) → a < 2 ^ 32 → bit_xor a 4294967295 ≡ 4294967295 - a
xor_ones a h = omega (arith, xor_add_and a 4294967295, and_mask a 32)

pub each_row : (op : AluOp) (a b : ℕ) → a < 2 ^ 32 → b < 2 ^ 32 → gates (controls_of (row op).gates) a b ≡ alu op a b
unfolding wrap
each_row ops.A a b p q = simp (xor_zero_r, or_zero_r)
each_row ops.NotA a b p q = or_zero_r (bit_xor a 4294967295) ∙ xor_ones a p
each_row ops.Sum a b p q = rw (xor_zero_r a) (omega arith)
each_row ops.SumInc a b p q = rw (xor_zero_r a) (omega arith)
each_row ops.IncA a b p q = rw (xor_zero_r a) (omega arith)
each_row ops.IncB a b p q = omega arith
each_row ops.Sub a b p q = rw (xor_ones a p) (omega arith)
each_row ops.DecB a b p q = omega arith
each_row ops.NegA a b p q = rw (xor_ones a p) (omega arith)
each_row ops.And a b p q = rw (xor_zero_r a) refl
each_row ops.Or a b p q = rw (xor_zero_r a) refl
each_row _ a b p q = refl
