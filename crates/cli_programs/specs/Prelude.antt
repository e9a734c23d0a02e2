-- The words of this crate, for those that use it.
pub use Rattle.cli_programs.specs.Answers.{Assembles, EndsOver}
pub use Rattle.cli_programs.specs.Program.{AsFile, AsSource, HasNoProgram, IsAcceptedProgram, IsNoSource, IsOf, IsRefusalByAll, IsRefusedProgram, IsSource, NoImage, NoProgram, NoSource, NotAccepted, NotLinked, begins_image}
pub use Rattle.cli_programs.specs.Reference.{CutByRead, CutByWrite, IsReferenceRun, IsReported, Reported, Short, verified_program}
pub use Rattle.cli_programs.specs.SoakEnds.{IsGenerated, NoRoom, SoakEnds, soak_bound}
pub use Rattle.cli_programs.specs.SoakSummary.{soak_summary}
pub use Rattle.cli_programs.specs.TinyAnswers.{Compiles, EndsOverTiny}
pub use Rattle.cli_programs.specs.TinyRefusals.{IsRefusedTiny, tiny_reason}
