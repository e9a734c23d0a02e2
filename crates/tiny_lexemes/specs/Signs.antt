-- The signs and the reserved words, and how each is spelled.
use Rattle.std.specs.Prelude.{ℕ, List, [], ◌∷◌, Option, codes, find}
use Rattle.std.specs.Str.{bytes_eq}
use Rattle.tiny_draft.specs.declared.token.Sign.{Sign}
use Rattle.tiny_draft.specs.declared.token.Sign.TheVariants as signs

abbrev pub sign_text : Sign → List ℕ
sign_text signs.Open = codes "("
sign_text signs.Close = codes ")"
sign_text signs.Begin = codes "{"
sign_text signs.End = codes "}"
sign_text signs.Comma = codes ","
sign_text signs.Semicolon = codes ";"
sign_text signs.Assign = codes "="
sign_text signs.Equal = codes "=="
sign_text signs.Different = codes "!="
sign_text signs.Less = codes "<"
sign_text signs.Plus = codes "+"
sign_text signs.Minus = codes "-"
sign_text signs.And = codes "&"
sign_text signs.Or = codes "|"
sign_text signs.Fn = codes "fn"
sign_text signs.Var = codes "var"
sign_text signs.If = codes "if"
sign_text signs.Else = codes "else"
sign_text signs.While = codes "while"
sign_text signs.Return = codes "return"
sign_text signs.Put = codes "put"
sign_text signs.Get = codes "get"
sign_text signs.Halt = codes "halt"

abbrev pub all_signs : List Sign
all_signs = signs.Open ∷ signs.Close ∷ signs.Begin ∷ signs.End ∷ signs.Comma ∷ signs.Semicolon ∷ signs.Assign
    ∷ signs.Equal ∷ signs.Different ∷ signs.Less ∷ signs.Plus ∷ signs.Minus ∷ signs.And ∷ signs.Or ∷ signs.Fn ∷ signs.Var
    ∷ signs.If ∷ signs.Else ∷ signs.While ∷ signs.Return ∷ signs.Put ∷ signs.Get ∷ signs.Halt ∷ []

-- the sign with this spelling
abbrev pub find_sign : List ℕ → Option Sign
find_sign text = find (λ s. bytes_eq (sign_text s) text) all_signs
