-- The words of this crate, for those that use it.
pub use Rattle.mic1_datapath.specs.Cycle.{HasComputed, IsAtEdge, IsLast, IsTried, is_done, moved_on, ports_at}
pub use Rattle.mic1_datapath.specs.Latches.{AreLatches, access_by, fetches, micro_in, reads, under_way}
pub use Rattle.mic1_datapath.specs.Mic1.{IsReady, StepsAsSpelled, initial, mic1_meaning, microstep, registers_of}
unfoldable pub use Rattle.mic1_datapath.specs.Mic1.{computed, driven, step_of_word}
pub use Rattle.mic1_datapath.specs.Micro.{Micro}
pub use Rattle.mic1_datapath.specs.Microstep.{assigned, clock, next_micro, ports_of, refusal, registers_in, result_of, settled, source, world_after}
pub use Rattle.mic1_datapath.specs.View.{buses_by, micro_of}
