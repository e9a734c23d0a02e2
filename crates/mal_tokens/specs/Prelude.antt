-- The words of this crate, for those that use it.
pub use Rattle.mal_tokens.specs.Spelled.{IsTextOf, label_lexeme, may_end, number_lexeme, sign_lexeme, spelled_as, word_lexeme}
pub use Rattle.mal_tokens.specs.Tokens.{IsLexeme, SpellsTokens, mal, read}
pub use Rattle.mal_tokens.specs.Words.{IsLabelText, is_reserved, sign_text, word_text}
