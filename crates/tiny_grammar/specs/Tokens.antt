-- Tokens from the front. Where none is left, the first one counts as a token that begins nothing.
use Rattle.std.specs.Prelude.{ℕ, List, [], ◌∷◌}
use Rattle.tiny_grammar.specs.Common.{Kind, Sign, Token}
use Rattle.tiny_draft.specs.declared.token.Kind.TheVariants as kinds
use Rattle.tiny_draft.specs.declared.token.Sign.TheVariants as signs

abbrev pub first_kind : List Token → Kind
first_kind [] = kinds.Bad
first_kind (t ∷ ts) = t.kind

abbrev pub first_line : List Token → ℕ
first_line [] = 0
first_line (t ∷ ts) = t.line

abbrev pub rest_of : List Token → List Token
rest_of [] = []
rest_of (t ∷ ts) = ts

-- the number of a sign, in the order of their declaration
abbrev pub rank : Sign → ℕ
rank signs.Open = 0
rank signs.Close = 1
rank signs.Begin = 2
rank signs.End = 3
rank signs.Comma = 4
rank signs.Semicolon = 5
rank signs.Assign = 6
rank signs.Equal = 7
rank signs.Different = 8
rank signs.Less = 9
rank signs.Plus = 10
rank signs.Minus = 11
rank signs.And = 12
rank signs.Or = 13
rank signs.Fn = 14
rank signs.Var = 15
rank signs.If = 16
rank signs.Else = 17
rank signs.While = 18
rank signs.Return = 19
rank signs.Put = 20
rank signs.Get = 21
rank signs.Halt = 22
