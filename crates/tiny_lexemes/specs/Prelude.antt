-- The words of this crate, for those that use it.
pub use Rattle.tiny_lexemes.specs.Lexemes.{IsLexeme, SpellsLexemes, number_lexeme, read, tiny, value_by}
pub use Rattle.tiny_lexemes.specs.Signs.{find_sign}
pub use Rattle.tiny_lexemes.specs.Spelled.{number_value}
