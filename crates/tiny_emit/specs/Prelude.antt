-- The words of this crate, for those that use it.
pub use Rattle.tiny_emit.specs.Appended.{AddsStatements, code_of_call, code_of_expr, jump_of}
pub use Rattle.tiny_emit.specs.Emitted.{AddsMain, AddsMethod, AddsMethods, program_of}
