-- The words of this crate, for those that use it.
pub use Rattle.mic2_fetch_unit.specs.FetchUnit.{IsUnit, Prefetch, appended, at_start, bytes_of_word, jump_refusal, sample_refusal, sampled_at, sampled_by, with_pending, without}
unfoldable pub use Rattle.mic2_fetch_unit.specs.FetchUnit.{edge, edge_refusal, jump}
pub use Rattle.mic2_fetch_unit.specs.Held.{AtLeast, Bounds, Held, IsHeld, IsWait, Jumped, Lack, One, Waits, WaitsFirst, WaitsLate, WaitsOn, held_after, held_waited, is_enough}
pub use Rattle.mic2_fetch_unit.specs.Packed.{turned_word}
unfoldable pub use Rattle.mic2_fetch_unit.specs.Packed.{bytes_in}
pub use Rattle.mic2_fetch_unit.specs.Place.{HoldsSame, StandsAt}
pub use Rattle.mic2_fetch_unit.specs.QueueLaw.{IsKept, QueueLaw}
pub use Rattle.mic2_fetch_unit.specs.Units.{bytes_from, text_from}
unfoldable pub use Rattle.mic2_fetch_unit.specs.Units.{have_after, unit_at}
