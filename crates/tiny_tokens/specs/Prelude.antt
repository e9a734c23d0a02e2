-- The words of this crate, for those that use it.
pub use Rattle.tiny_tokens.specs.Reading.{HeldView, add_all, add_one, add_read, step}
pub use Rattle.tiny_tokens.specs.Tokens.{HasTokens, SpellsLines, kind_of, main_only, number_all}
