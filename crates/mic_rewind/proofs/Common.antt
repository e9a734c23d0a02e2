-- The words of other crates that these proofs use.
pub use Rattle.circular_buffer.specs.Buffer.{Buffer, buffer, keep_last}
pub use Rattle.std.proofs.Math.ListN.{set}
pub use Rattle.std.proofs.Math.Seq.{drop-cons, take-suc}
pub use Rattle.std.proofs.lemmas.Bool.{cases_eq}
pub use Rattle.std.proofs.lemmas.Grind.{common_steps}
pub use Rattle.std.proofs.lemmas.Option.{get_or_from_slice_get, slice_get-get_or, slice_get_within, unwrap_or-slice_get}
pub use Rattle.std.specs.List.{slice_get}
pub use Rattle.std.specs.Option.{IsSome}
pub use Rattle.console_port.specs.Prelude.{BusView, ChangesOnly}
pub use Rattle.mic_clock.specs.Prelude.{BoardView, EndsUncounted, IsCounted, Meaning, goes-nowhere, tick_of}
pub use Rattle.mic_clock.specs.declared.counts.Counts.{Counts}
pub use Rattle.mic_clock.specs.declared.end.End.{End}
pub use Rattle.mic_rewind.specs.Prelude.{AreKept, Cycle, Fits, GoesBack, HasAddress, HaveAddresses, HistoryView, IsHistory, IsRewind, LeadFrom, LeadTo}
pub use Rattle.mic_rewind.specs.Prelude.{Snapshot, appended, begun, begun_at, cycles_from, first_in, future, kept_in, last_of, led_from, moment_at}
pub use Rattle.mic_rewind.specs.Prelude.{moment_before, moment_of, newest, past, redone, spare, state_of, states_after, states_before, stored, undone}
pub use Rattle.mic_rewind.specs.Prelude.{view_from, view_of, words_before}
pub use Rattle.mic_rewind.specs.declared.kept_cycle.KeptCycle.{KeptCycle}
pub use Rattle.mic_rewind.specs.declared.moment.Moment.{Moment}
