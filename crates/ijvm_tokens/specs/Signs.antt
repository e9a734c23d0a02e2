-- The signs and the dotted words, and how each is spelled.
use Rattle.std.specs.Prelude.{ℕ, List, [], ◌∷◌, Option, codes, find}
use Rattle.std.specs.Str.{bytes_eq}
use Rattle.ijvm_tokens.specs.declared.sign.Sign.{Sign}
use Rattle.ijvm_tokens.specs.declared.sign.Sign.TheVariants as signs

abbrev pub sign_text : Sign → List ℕ
sign_text signs.Open = codes "("
sign_text signs.Close = codes ")"
sign_text signs.Comma = codes ","
sign_text signs.Colon = codes ":"
sign_text signs.Constant = codes ".constant"
sign_text signs.EndConstant = codes ".end-constant"
sign_text signs.Main = codes ".main"
sign_text signs.EndMain = codes ".end-main"
sign_text signs.Method = codes ".method"
sign_text signs.EndMethod = codes ".end-method"
sign_text signs.Var = codes ".var"
sign_text signs.EndVar = codes ".end-var"

abbrev pub all_signs : List Sign
all_signs = signs.Open ∷ signs.Close ∷ signs.Comma ∷ signs.Colon ∷ signs.Constant ∷ signs.EndConstant ∷ signs.Main
    ∷ signs.EndMain ∷ signs.Method ∷ signs.EndMethod ∷ signs.Var ∷ signs.EndVar ∷ []

-- the sign that is spelled so
abbrev pub find_sign : List ℕ → Option Sign
find_sign text = find (λ s. bytes_eq (sign_text s) text) all_signs
