-- The tokens of a text: those of its lines in order, each with its line. A name has the number of its place among the
-- different names of the text, of which `main` is the first.
use Rattle.std.specs.Prelude.{◌≡◌, ℕ, ◌+◌, List, [], ◌∷◌, ◌++◌, length, map, codes, Option, Some, None}
use Rattle.source_text.specs.Prelude.{contents, place_of_name}
use Rattle.tiny_draft.specs.declared.token.Kind.{Kind}
use Rattle.tiny_draft.specs.declared.token.Kind.TheVariants as kinds
use Rattle.tiny_draft.specs.declared.token.Token.{Token}
use Rattle.tiny_lexemes.specs.declared.lexeme.Lexeme.{Lexeme}
use Rattle.tiny_lexemes.specs.declared.lexeme.Lexeme.TheVariants as lexemes
use Rattle.tiny_lexemes.specs.Prelude.{SpellsLexemes}

-- ---- the tokens by their texts

-- the tokens of these lines, the first of which has this number
abbrev pub SpellsLines : ℕ → List (List ℕ) → List (Lexeme × ℕ) → Type 0
SpellsLines k [] ts = ts ≡ []
SpellsLines k (l ∷ ls) ts = (here : List Lexeme) × (later : List (Lexeme × ℕ)) × (ts ≡ map (λ x. (x, k)) here ++ later)
    × SpellsLexemes l here × SpellsLines (k + 1) ls later

abbrev pub Spells : List ℕ → List (Lexeme × ℕ) → Type 0
Spells text ts = SpellsLines 1 (contents text) ts

-- ---- the numbers of names

abbrev pub main_only : List (List ℕ)
main_only = codes "main" ∷ []

-- a name's number, and the names with it
abbrev pub numbered : List (List ℕ) → List ℕ → Option ℕ → ℕ × List (List ℕ)
numbered names name (Some n) = (n, names)
numbered names name None = (length names, names ++ name ∷ [])

-- what a token is, after tokens with these names, and the names with it
abbrev pub kind_of : List (List ℕ) → Lexeme → Kind × List (List ℕ)
kind_of names (lexemes.Of s) = (kinds.Of s, names)
kind_of names (lexemes.Name n) = let r = numbered names n (place_of_name names n) in (kinds.Name r.0, r.1)
kind_of names (lexemes.Number v) = (kinds.Number v, names)
kind_of names lexemes.Bad = (kinds.Bad, names)
kind_of names lexemes.Unread = (kinds.Unread, names)

abbrev pub number_all : List (List ℕ) → List (Lexeme × ℕ) → List Token
number_all names [] = []
number_all names (t ∷ ts) = let r = kind_of names t.0 in record { kind = r.0; line = t.1 } ∷ number_all r.1 ts

-- the text has these tokens
abbrev pub HasTokens : List ℕ → List Token → Type 0
HasTokens text tokens = (ts : List (Lexeme × ℕ)) × Spells text ts × (tokens ≡ number_all main_only ts)
