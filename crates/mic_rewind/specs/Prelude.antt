-- The words of this crate, for those that use it.
pub use Rattle.mic_rewind.specs.Rewind.{HasAddress, HaveAddresses, IsRewind, Keeps, RewindView, last_of, moment_of, newest, snapshot_of, state_of}
pub use Rattle.mic_rewind.specs.States.{Cycle, Fits, LeadFrom, LeadTo, Snapshot, begun, cycles_from, led_from, moment_before, redone, states_after, states_before, stored, undone, words_before}
pub use Rattle.mic_rewind.specs.View.{AreKept, GoesBack, HistoryView, IsHistory, appended, begun_at, first_in, future, kept_in, moment_at, past, spare, view_from, view_of}
