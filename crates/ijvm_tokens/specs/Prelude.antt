-- The words of this crate, for those that use it.
pub use Rattle.ijvm_tokens.specs.Tokens.{ijvm, read}
