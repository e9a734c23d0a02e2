-- The words of this crate, for those that use it.
pub use Rattle.cli_check.specs.CheckEnds.{CheckEnds, JudgesFor, NotShown, Proved}
pub use Rattle.cli_check.specs.Table.{instr_line, proved_text, rows_text}
pub use Rattle.cli_check.specs.Words.{Asked, asked, asked_in}
