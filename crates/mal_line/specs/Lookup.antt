-- The reading of an expression. It computes the coding that `Expressions` states, where there is one.
use Rattle.std.specs.Prelude.{ℕ, ℤ, pos, negsuc, ◌==◌, zero, suc, Bool, false, not, List, [], ◌∷◌, Option, Some, None, if◌then◌else◌, option_and_then, option_map}
use Rattle.mal_line.specs.Common.{Machine, Mic1, Mic2, AluOp, BusSource, Shift, is_h, Word, Token}
use Rattle.micro_word.specs.declared.statement.AluOp.TheVariants as ops
use Rattle.micro_word.specs.declared.statement.BusSource.TheVariants as bus
use Rattle.micro_word.specs.declared.statement.Shift.TheVariants as shifts
use Rattle.mal_tokens.specs.declared.word.Word.TheVariants as words
use Rattle.mal_tokens.specs.declared.sign.Sign.TheVariants as signs
use Rattle.mal_tokens.specs.declared.token.Token.TheVariants as tokens
use Rattle.mal_line.specs.declared.operation.Operation.{Operation}
use Rattle.mal_line.specs.declared.expression.Operand.{Operand}
use Rattle.mal_line.specs.declared.expression.Operand.TheVariants as operands
use Rattle.mal_line.specs.declared.chain.Tail.{Tail}
use Rattle.mal_line.specs.declared.chain.Tail.TheVariants as tails
use Rattle.mal_line.specs.Expressions.{fits}

abbrev pub source_of : Word → Option BusSource
source_of words.Mdr = Some bus.Mdr
source_of words.Pc = Some bus.Pc
source_of words.Mbr = Some bus.Mbr
source_of words.Mbru = Some bus.Mbru
source_of words.Sp = Some bus.Sp
source_of words.Lv = Some bus.Lv
source_of words.Cpp = Some bus.Cpp
source_of words.Tos = Some bus.Tos
source_of words.Opc = Some bus.Opc
source_of words.Mbr1 = Some bus.Mbr1
source_of words.Mbr1u = Some bus.Mbr1u
source_of words.Mbr2 = Some bus.Mbr2
source_of words.Mbr2u = Some bus.Mbr2u
source_of words.H = Some bus.H
source_of _ = None

abbrev pub operand_by : Option BusSource → Operand
operand_by (Some x) = operands.Source x
operand_by None = operands.Other

abbrev pub operand_of : Token → Operand
operand_of (tokens.Word w) = operand_by (source_of w)
operand_of (tokens.Number (pos zero)) = operands.Zero
operand_of (tokens.Number (pos (suc zero))) = operands.One
operand_of _ = operands.Other

abbrev pub work : AluOp → Option BusSource → Option BusSource → Operation
work op a b = record { op = op; a = a; b = b; shift = shifts.None }

-- a single source stands on the A side where it is H of Mic-1, else on the B side
abbrev pub on_a : Machine → BusSource → Bool
on_a Mic1 x = is_h x
on_a Mic2 x = false

abbrev pub from_one_source : Machine → AluOp → AluOp → BusSource → Operation
from_one_source machine op_a op_b x = if on_a machine x then work op_a (Some x) None else work op_b None (Some x)

-- of two sources, the first stands on the A side; on Mic-1, the one that is H
abbrev pub on_b : Machine → BusSource → Bool
on_b Mic1 x = not (is_h x)
on_b Mic2 x = false

abbrev pub paired : Machine → AluOp → BusSource → BusSource → Operation
paired machine op x y = if on_b machine x then work op (Some y) (Some x) else work op (Some x) (Some y)

abbrev pub single : Machine → Operand → Option Operation
single machine (operands.Source x) = Some (from_one_source machine ops.A ops.B x)
single machine operands.Zero = Some (work ops.Zero None None)
single machine operands.One = Some (work ops.One None None)
single machine operands.Other = None

abbrev pub prefixed : Machine → Token → Operand → Option Operation
prefixed machine (tokens.Word words.Not) (operands.Source x) = Some (from_one_source machine ops.NotA ops.NotB x)
prefixed machine (tokens.Sign signs.Minus) (operands.Source x) = Some (work ops.NegA (Some x) None)
prefixed machine (tokens.Sign signs.Minus) operands.One = Some (work ops.MinusOne None None)
prefixed machine _ _ = None

abbrev pub joined : Machine → Operand → Token → Operand → Option Operation
joined machine (operands.Source x) (tokens.Sign signs.Plus) (operands.Source y) = Some (paired machine ops.Sum x y)
joined machine (operands.Source x) (tokens.Sign signs.Plus) operands.One = Some (from_one_source machine ops.IncA ops.IncB x)
joined machine operands.One (tokens.Sign signs.Plus) (operands.Source y) = Some (from_one_source machine ops.IncA ops.IncB y)
joined machine (operands.Source x) (tokens.Sign signs.Minus) (operands.Source y) = Some (work ops.Sub (Some y) (Some x))
joined machine (operands.Source x) (tokens.Sign signs.Minus) operands.One = Some (work ops.DecB None (Some x))
joined machine (operands.Source x) (tokens.Word words.And) (operands.Source y) = Some (paired machine ops.And x y)
joined machine (operands.Source x) (tokens.Word words.Or) (operands.Source y) = Some (paired machine ops.Or x y)
joined machine _ _ _ = None

abbrev pub sum_and_one : Machine → Operand → Operand → Operand → Token → Token → Option Operation
sum_and_one machine (operands.Source x) (operands.Source y) operands.One (tokens.Sign signs.Plus) (tokens.Sign signs.Plus) =
    Some (paired machine ops.SumInc x y)
sum_and_one machine _ _ _ _ _ = None

-- the operation that has this form, on any machine that does it
abbrev pub operation_in : Machine → List Token → Option Operation
operation_in machine (x ∷ []) = single machine (operand_of x)
operation_in machine (prefix ∷ x ∷ []) = prefixed machine prefix (operand_of x)
operation_in machine (x ∷ between ∷ y ∷ []) = joined machine (operand_of x) between (operand_of y)
operation_in machine (x ∷ p ∷ y ∷ q ∷ z ∷ []) = sum_and_one machine (operand_of x) (operand_of y) (operand_of z) p q
operation_in machine _ = None

abbrev pub checked : Machine → Operation → Option Operation
checked machine o = if fits machine o then Some o else None

abbrev pub is_number : ℤ → ℕ → Bool
is_number (pos n) k = n == k
is_number (negsuc n) k = false

abbrev pub shift_of : Tail → Option Shift
shift_of tails.Nothing = Some shifts.None
shift_of (tails.Left v) = if is_number v 8 then Some shifts.Left8 else None
shift_of (tails.Right v) = if is_number v 1 then Some shifts.Right1 else None

abbrev pub with_shift : Option Operation → Shift → Option Operation
with_shift o s = option_map (λ o. record { op = o.op; a = o.a; b = o.b; shift = s }) o

abbrev pub coding_of : Machine → List Token → Tail → Option Operation
coding_of machine body tail = option_and_then (with_shift (option_and_then (checked machine) (operation_in machine body))) (shift_of tail)
