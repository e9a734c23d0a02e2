-- The words of this crate, for those that use it.
pub use Rattle.mic_watched.specs.Cycles.{boundary_at, boundary_in, boundary_of, cycle_between, cycle_on, cycles_of, shown, shown_on, shown_where}
pub use Rattle.mic_watched.specs.Watched.{CanRun, IsWatched, LeadsOver, PrintsOf, Saw, ShowsCycles, kept_of}
