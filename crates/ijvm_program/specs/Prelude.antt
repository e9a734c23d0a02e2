-- The words of this crate, for those that use it.
pub use Rattle.ijvm_program.specs.Layout.{instr_of, jump_by, line_address, line_size}
pub use Rattle.ijvm_program.specs.Program.{IsProgram, IsUnit, NamesPosition, ProgramView, most_names}
pub use Rattle.ijvm_program.specs.Unit.{UnitView}
