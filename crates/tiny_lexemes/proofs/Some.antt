-- Every line has tokens.
use Rattle.std.proofs.Common.{◌≡◌, ℕ, zero, suc, ◌-◌, Bool, true, false, List, [], ◌∷◌, Option, Some, None, take, refl}
use Rattle.mic_base.specs.Prelude.{is_name, number_of}
use Rattle.source_text.specs.Reading as reading
use Rattle.source_text.specs.Prelude.{lex, begins_number, extent, token_of, is_blank}
use Rattle.tiny_draft.specs.declared.token.Sign.{Sign}
use Rattle.tiny_lexemes.specs.declared.lexeme.Lexeme.{Lexeme}
use Rattle.tiny_lexemes.specs.declared.lexeme.Lexeme.TheVariants as lexemes
use Rattle.tiny_lexemes.specs.Prelude.{find_sign, number_lexeme, read, tiny, value_by}

some_token : (text : List ℕ) → (t : Lexeme) × (token_of tiny text ≡ Some t)
some_token text = go (begins_number tiny text) (find_sign text) (is_name text) refl refl refl
  where
    go : (d : Bool) (r : Option Sign) (n : Bool) → begins_number tiny text ≡ d → find_sign text ≡ r → is_name text ≡ n → (t : Lexeme) × (token_of tiny text ≡ Some t)
    go true r n e f g = (number_lexeme (value_by (number_of text)), rw e refl)
    go false (Some s) n e f g = (lexemes.Of s, rw (e, f) refl)
    go false None true e f g = (lexemes.Name text, rw (e, f, g) refl)
    go false None false e f g = (lexemes.Bad, rw (e, f, g) refl)

has_lexemes : (line : List ℕ) (n : ℕ) → (ls : List Lexeme) × (lex tiny n line ≡ Some ls)
unfolding lex
has_lexemes [] n = ([], refl)
has_lexemes (b ∷ rest) (suc n) = has_lexemes rest n
has_lexemes (b ∷ rest) zero = go (is_blank b) refl (has_lexemes rest 0) (has_lexemes rest (extent tiny (b ∷ rest) - 1))
  where
    go : (w : Bool) → is_blank b ≡ w → (ls : List Lexeme) × (lex tiny 0 rest ≡ Some ls) → (ls : List Lexeme) × (lex tiny (extent tiny (b ∷ rest) - 1) rest ≡ Some ls)
        → (ls : List Lexeme) × (lex tiny 0 (b ∷ rest) ≡ Some ls)
    go true w r s = (r.0, rw w r.1)
    go false w r s = let t = some_token (take (extent tiny (b ∷ rest)) (b ∷ rest)) in (t.0 ∷ s.0, rw (w, t.1, s.1) refl)

pub reads_some : (line : List ℕ) → (ls : List Lexeme) × (read line ≡ Some ls)
unfolding reading.read
reads_some line = has_lexemes line 0
