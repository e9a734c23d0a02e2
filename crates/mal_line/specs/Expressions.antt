-- The table of expressions: how each operation on its sources is spelled.
use Rattle.std.specs.Prelude.{◌≡◌, ℕ, pos, true, false, List, [], ◌∷◌, ◌++◌, ◌⊎◌, Bool, Option, Some, None}
use Rattle.mal_line.specs.Common.{Machine, Mic1, AluOp, BusSource, Shift, Part, is_part, Word, Token}
use Rattle.micro_word.specs.declared.statement.AluOp.TheVariants as ops
use Rattle.micro_word.specs.declared.statement.BusSource.TheVariants as bus
use Rattle.micro_word.specs.declared.statement.Shift.TheVariants as shifts
use Rattle.micro_word.specs.declared.statement.Mem.TheVariants as mems
use Rattle.mal_tokens.specs.declared.word.Word.TheVariants as words
use Rattle.mal_tokens.specs.declared.sign.Sign.TheVariants as signs
use Rattle.mal_tokens.specs.declared.token.Token.TheVariants as tokens
use Rattle.mal_line.specs.declared.operation.Operation.{Operation}
use Rattle.mal_line.specs.declared.chain.Tail.{Tail}
use Rattle.mal_line.specs.declared.chain.Tail.TheVariants as tails

-- a bus source's register
abbrev pub source_word : BusSource → Word
source_word bus.Mdr = words.Mdr
source_word bus.Pc = words.Pc
source_word bus.Mbr = words.Mbr
source_word bus.Mbru = words.Mbru
source_word bus.Sp = words.Sp
source_word bus.Lv = words.Lv
source_word bus.Cpp = words.Cpp
source_word bus.Tos = words.Tos
source_word bus.Opc = words.Opc
source_word bus.Mbr1 = words.Mbr1
source_word bus.Mbr1u = words.Mbr1u
source_word bus.Mbr2 = words.Mbr2
source_word bus.Mbr2u = words.Mbr2u
source_word bus.H = words.H

-- what stands for a side of the ALU, where there is something on it
abbrev pub side : Option BusSource → List Token
side None = []
side (Some x) = tokens.Word (source_word x) ∷ []

abbrev pub zero_token : Token
zero_token = tokens.Number (pos 0)

abbrev pub one_token : Token
one_token = tokens.Number (pos 1)

abbrev pub plus : Token
plus = tokens.Sign signs.Plus

abbrev pub minus : Token
minus = tokens.Sign signs.Minus

-- the first spelling of each operation, from what stands for A and B
abbrev pub spelling : AluOp → List Token → List Token → List Token
spelling ops.A a b = a
spelling ops.B a b = b
spelling ops.NotA a b = tokens.Word words.Not ∷ a
spelling ops.NotB a b = tokens.Word words.Not ∷ b
spelling ops.Sum a b = a ++ plus ∷ b
spelling ops.SumInc a b = a ++ plus ∷ (b ++ plus ∷ one_token ∷ [])
spelling ops.IncA a b = a ++ plus ∷ one_token ∷ []
spelling ops.IncB a b = b ++ plus ∷ one_token ∷ []
spelling ops.Sub a b = b ++ minus ∷ a
spelling ops.DecB a b = b ++ minus ∷ one_token ∷ []
spelling ops.NegA a b = minus ∷ a
spelling ops.And a b = a ++ tokens.Word words.And ∷ b
spelling ops.Or a b = a ++ tokens.Word words.Or ∷ b
spelling ops.Zero a b = zero_token ∷ []
spelling ops.One a b = one_token ∷ []
spelling ops.MinusOne a b = minus ∷ one_token ∷ []

-- the second spelling of some: on Mic-1 the sides stand in any order
abbrev pub other_spellings : Machine → AluOp → List Token → List Token → List (List Token)
other_spellings machine ops.IncA a b = (one_token ∷ plus ∷ a) ∷ []
other_spellings machine ops.IncB a b = (one_token ∷ plus ∷ b) ∷ []
other_spellings Mic1 ops.Sum a b = spelling ops.Sum b a ∷ []
other_spellings Mic1 ops.SumInc a b = spelling ops.SumInc b a ∷ []
other_spellings Mic1 ops.And a b = spelling ops.And b a ∷ []
other_spellings Mic1 ops.Or a b = spelling ops.Or b a ∷ []
other_spellings machine op a b = []

abbrev pub spellings : Machine → Operation → List (List Token)
spellings machine o = spelling o.op (side o.a) (side o.b) ∷ other_spellings machine o.op (side o.a) (side o.b)

abbrev pub IsOneOf : List Token → List (List Token) → Type 0
IsOneOf ts [] = ⊥
IsOneOf ts (x ∷ xs) = (ts ≡ x) ⊎ IsOneOf ts xs

-- a statement of this operation and these destinations, with nothing else
abbrev pub part_with : Operation → ℕ → Part
part_with o dests = record { dests = dests; op = o.op; a = o.a; b = o.b; shift = o.shift; mem = mems.None; fetch = false }

-- the machine does this operation on these sources
abbrev pub fits : Machine → Operation → Bool
fits machine o = is_part machine (part_with o 0)

-- `<<8`, `>>1` or nothing
abbrev pub tail_with : Shift → Tail
tail_with shifts.None = tails.Nothing
tail_with shifts.Left8 = tails.Left (pos 8)
tail_with shifts.Right1 = tails.Right (pos 1)

-- an expression and its tail have this coding
pub record IsCoded (machine : Machine) (body : List Token) (tail : Tail) (o : Operation) : Type 0 where
  pub fitting : fits machine o ≡ true
  pub spelled : IsOneOf body (spellings machine o)
  pub shifted : tail ≡ tail_with o.shift
