-- The words of this crate, for those that use it.
pub use Rattle.tiny_compiler.specs.Compiled.{HasNoCode, IsCompiled, NoProgram, TooLarge}
pub use Rattle.tiny_compiler.specs.Image.{ExceedsBy, IsTooLarge}
