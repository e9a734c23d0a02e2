-- The words of this crate, for those that use it.
pub use Rattle.tiny_parser.specs.Errors.{fault_error, grammar_error, is_memory}
pub use Rattle.tiny_parser.specs.Texts.{IsRefused, IsUnwritten, IsWritten, Spells, last_line}
