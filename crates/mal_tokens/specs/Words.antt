-- The reserved words, the signs and the dotted words, and how each is spelled.
use Rattle.std.specs.Prelude.{◌≡◌, ℕ, Bool, true, false, List, [], ◌∷◌, Option, codes, find, is_some}
use Rattle.std.specs.Str.{bytes_eq}
use Rattle.mic_base.specs.Prelude.{is_name}
use Rattle.mal_tokens.specs.declared.word.Word.{Word}
use Rattle.mal_tokens.specs.declared.word.Word.TheVariants as words
use Rattle.mal_tokens.specs.declared.sign.Sign.{Sign}
use Rattle.mal_tokens.specs.declared.sign.Sign.TheVariants as signs

abbrev pub word_text : Word → List ℕ
word_text words.Mar = codes "MAR"
word_text words.Mdr = codes "MDR"
word_text words.Pc = codes "PC"
word_text words.Sp = codes "SP"
word_text words.Lv = codes "LV"
word_text words.Cpp = codes "CPP"
word_text words.Tos = codes "TOS"
word_text words.Opc = codes "OPC"
word_text words.H = codes "H"
word_text words.Mbr = codes "MBR"
word_text words.Mbru = codes "MBRU"
word_text words.Mbr1 = codes "MBR1"
word_text words.Mbr1u = codes "MBR1U"
word_text words.Mbr2 = codes "MBR2"
word_text words.Mbr2u = codes "MBR2U"
word_text words.N = codes "N"
word_text words.Z = codes "Z"
word_text words.And = codes "AND"
word_text words.Or = codes "OR"
word_text words.Not = codes "NOT"
word_text words.Rd = codes "rd"
word_text words.Wr = codes "wr"
word_text words.Fetch = codes "fetch"
word_text words.Goto = codes "goto"
word_text words.If = codes "if"
word_text words.Else = codes "else"

abbrev pub sign_text : Sign → List ℕ
sign_text signs.Equals = codes "="
sign_text signs.Plus = codes "+"
sign_text signs.Minus = codes "-"
sign_text signs.Semicolon = codes ";"
sign_text signs.Colon = codes ":"
sign_text signs.Open = codes "("
sign_text signs.Close = codes ")"
sign_text signs.Left = codes "<<"
sign_text signs.Right = codes ">>"
sign_text signs.Label = codes ".label"
sign_text signs.Default = codes ".default"

abbrev pub all_words : List Word
all_words = words.Mar ∷ words.Mdr ∷ words.Pc ∷ words.Sp ∷ words.Lv ∷ words.Cpp ∷ words.Tos ∷ words.Opc ∷ words.H
    ∷ words.Mbr ∷ words.Mbru ∷ words.Mbr1 ∷ words.Mbr1u ∷ words.Mbr2 ∷ words.Mbr2u ∷ words.N ∷ words.Z ∷ words.And
    ∷ words.Or ∷ words.Not ∷ words.Rd ∷ words.Wr ∷ words.Fetch ∷ words.Goto ∷ words.If ∷ words.Else ∷ []

abbrev pub all_signs : List Sign
all_signs = signs.Equals ∷ signs.Plus ∷ signs.Minus ∷ signs.Semicolon ∷ signs.Colon ∷ signs.Open ∷ signs.Close
    ∷ signs.Left ∷ signs.Right ∷ signs.Label ∷ signs.Default ∷ []

-- the reserved word with this spelling
abbrev pub find_word : List ℕ → Option Word
find_word text = find (λ w. bytes_eq (word_text w) text) all_words

abbrev pub find_sign : List ℕ → Option Sign
find_sign text = find (λ s. bytes_eq (sign_text s) text) all_signs

abbrev pub is_reserved : List ℕ → Bool
is_reserved text = is_some (find_word text)

-- a label is a name that is not reserved
abbrev pub IsLabelText : List ℕ → Type 0
IsLabelText label = (is_name label ≡ true) × (is_reserved label ≡ false)
