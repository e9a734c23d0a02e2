-- The words of this crate, for those that use it.
pub use Rattle.mic2_datapath.specs.Latches.{AreLatches, HasComputed, HasFront, access_by, micro_in}
pub use Rattle.mic2_datapath.specs.Mic2.{IsReady, at_zero, computed_on, driven_by, flagged, mic2_meaning, registers_of, stalled_drive, stalled_value, value_of}
unfoldable pub use Rattle.mic2_datapath.specs.Mic2.{computed, driven, step_of_word}
pub use Rattle.mic2_datapath.specs.Micro.{Micro}
pub use Rattle.mic2_datapath.specs.Microstep.{access_refusal, advanced, byte_at, clock, demand, dispatch_bytes, fetched, is_stalled, is_to_instruction, jumps, microstep, moved_on, next_micro, operand_bytes, past, refusal, registers_in, result_of, settled, source, stalled, step_if, unit_after, unit_refusal, unit_samples, world_after}
pub use Rattle.mic2_datapath.specs.Spelled.{spelled}
pub use Rattle.mic2_datapath.specs.View.{buses_by, buses_on, micro_of}
