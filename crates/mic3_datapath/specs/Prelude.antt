-- The words of this crate, for those that use it.
pub use Rattle.mic3_datapath.specs.Cycle.{begins, bytes_leaving, clock, computed, computed_in, cycle, cycle_with, dispatched, dispatched_from, from_computed, from_issued, from_retired, is_branch, is_destination, is_held_up, is_jump_coming, is_mdr, issued, issued_by, issued_in, mem_in, mpc_after, refusal, retired, settled, waits, word_after, world_after}
pub use Rattle.mic3_datapath.specs.Mic3.{IsReady, driven_by, initial, mic3_meaning, values_of}
unfoldable pub use Rattle.mic3_datapath.specs.Mic3.{driven, step_of_word}
pub use Rattle.mic3_datapath.specs.Pipeline.{Computed, Issued, Pipeline}
pub use Rattle.mic3_datapath.specs.Slots.{HasMoved, IsAsked, edged, in_operand, in_result, pipeline_in, retired_in, word_held}
pub use Rattle.mic3_datapath.specs.View.{buses_before, pipeline_of, values_by}
