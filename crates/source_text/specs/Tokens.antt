-- Which tokens a line spells.
use Rattle.std.specs.Prelude.{◌≡◌, ℕ, ◌==◌, ◌||◌, Bool, true, false, List, [], ◌∷◌, ◌++◌, Some}
use Rattle.std.specs.List.{list_all}
use Rattle.source_text.specs.Table.{GoesOn, MayEnd, Table, front_of, token_of}

abbrev pub is_blank : ℕ → Bool
is_blank b = b == 32 || b == 9

abbrev pub AreBlank : List ℕ → Type 0
AreBlank text = list_all is_blank text ≡ true

-- these bytes spell the token
abbrev pub IsLexeme : {T : Type 0} → Table T → T → List ℕ → Type 0
IsLexeme L t [] = ⊥
IsLexeme L t (b ∷ text) = (is_blank b ≡ false) × GoesOn L (front_of L b) b text × (token_of L (b ∷ text) ≡ Some t)

-- a token of these bytes may stand before those
abbrev pub EndsLexeme : {T : Type 0} → Table T → List ℕ → List ℕ → Type 0
EndsLexeme L [] rest = Unit {0}
EndsLexeme L (b ∷ text) rest = MayEnd L (front_of L b) b text rest

-- the line is the tokens in order, with blanks before, between and after them
abbrev pub Spells : {T : Type 0} → Table T → List ℕ → List T → Type 0
Spells L text [] = AreBlank text
Spells L text (t ∷ ts) = (gap : List ℕ) × (lexeme : List ℕ) × (rest : List ℕ)
    × (text ≡ gap ++ (lexeme ++ rest)) × AreBlank gap × IsLexeme L t lexeme × EndsLexeme L lexeme rest × Spells L rest ts
