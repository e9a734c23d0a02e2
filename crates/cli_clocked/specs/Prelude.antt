-- The words of this crate, for those that use it.
pub use Rattle.cli_clocked.specs.Cached.{IsCached}
pub use Rattle.cli_clocked.specs.Commands.{EndsCache, EndsOwnRun, EndsProfile, EndsTrace}
pub use Rattle.cli_clocked.specs.Own.{IsChosenMicroprogram, NoneChosen}
pub use Rattle.cli_clocked.specs.OwnRun.{IsOwnRun}
pub use Rattle.cli_clocked.specs.Prepared.{Clocked, EndsPrepared, IsPrepared, IsUnprepared, NoMicroprogram, NoProgram, Unprepared, job_in}
pub use Rattle.cli_clocked.specs.Profiled.{IsProfiled}
pub use Rattle.cli_clocked.specs.Runs.{IsFirstBoard, RunsThrough, report_on}
pub use Rattle.cli_clocked.specs.Traced.{IsTraced}
