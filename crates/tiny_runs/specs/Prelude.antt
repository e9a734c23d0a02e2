-- The words of this crate, for those that use it.
pub use Rattle.tiny_runs.specs.AsMeant.{Advances, IsPrefix, RunsAsMeant, output, runs_of}
pub use Rattle.tiny_runs.specs.Growing.{GrowsWithTurns}
