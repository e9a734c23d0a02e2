-- A number that is read has its value from its text.
use Rattle.std.proofs.Common.{◌≡◌, ℕ, inl, inr, List, [], ◌∷◌, Option, Some, None}
use Rattle.mic_base.specs.Prelude.{number_of}
use Rattle.source_text.specs.Prelude.{mapped, ByTable, by_table}
use Rattle.tiny_lexemes.specs.declared.lexeme.Lexeme.TheVariants as lexemes
use Rattle.tiny_lexemes.specs.Signs.{find_sign}
use Rattle.tiny_lexemes.specs.Lexemes.{IsLexeme, number_lexeme, tiny, value_by}

pub number_value : (v : ℕ) (text : List ℕ) → IsLexeme (lexemes.Number v) text → value_by (number_of text) ≡ Some v
number_value v [] is = absurd is
number_value v (b ∷ rest) (dark, goes, is) = go (by_table tiny (b ∷ rest) (lexemes.Number v) is)
  where
    read : (r : Option ℕ) → Some (number_lexeme r) ≡ Some (lexemes.Number v) → r ≡ Some v
    read (Some u) h = cc
    read None h = absurd (cc)

    go : ByTable tiny (b ∷ rest) (lexemes.Number v) → value_by (number_of (b ∷ rest)) ≡ Some v
    go (inl w) = read (value_by (number_of (b ∷ rest))) w.is
    go (inr (inl h)) = absurd (let m = mapped (λ s. lexemes.Of s) (find_sign (b ∷ rest)) (lexemes.Number v) h in let z = m.2 in cc)
    go (inr (inr (inl w))) = absurd (let z = w.is in cc)
    go (inr (inr (inr h))) = absurd (cc)
