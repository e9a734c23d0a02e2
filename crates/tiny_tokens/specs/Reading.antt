-- Computes the tokens of lines, from the tokens of those before.
use Rattle.std.specs.Prelude.{ℕ, List, [], ◌∷◌, ◌++◌, Option, Some, None, Result, Ok}
use Rattle.std.specs.declared.alloc.AllocError.{AllocError}
use Rattle.tiny_draft.specs.declared.token.Token.{Token}
use Rattle.tiny_lexemes.specs.declared.lexeme.Lexeme.{Lexeme}
use Rattle.tiny_lexemes.specs.Prelude.{read}
use Rattle.tiny_tokens.specs.Tokens.{kind_of}

-- the different names so far, and the tokens
pub record HeldView : Type 0 where
  pub names : List (List ℕ)
  pub tokens : List Token

abbrev pub add_one : ℕ → HeldView → Lexeme → HeldView
add_one line s lexeme =
    let r = kind_of s.names lexeme in
    record { names = r.1; tokens = s.tokens ++ record { kind = r.0; line = line } ∷ [] }

abbrev pub add_all : ℕ → HeldView → List Lexeme → HeldView
add_all line s [] = s
add_all line s (x ∷ xs) = add_all line (add_one line s x) xs

abbrev pub add_read : ℕ → HeldView → Option (List Lexeme) → HeldView
add_read line s None = s
add_read line s (Some xs) = add_all line s xs

abbrev pub step : ℕ → HeldView → List ℕ → Result HeldView AllocError
step line s text = Ok (add_read line s (read text))
