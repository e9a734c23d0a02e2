-- The words of this crate, for those that use it.
pub use Rattle.mic_datapath.specs.Access.{AtConsole, HasAccessed, IsAccess, IsTransfer, LeadsInside, LetsBytesWait, is_read}
pub use Rattle.mic_datapath.specs.Edges.{Asks, answered, edge_waits, first_clear, led_same, over_fails, refused_no_fault, second_clear, unrefused}
pub use Rattle.mic_datapath.specs.Jam.{jammed}
pub use Rattle.mic_datapath.specs.Memory.{access_refusal, byte_refusal, byte_under_way, first_refusal, memory_refusal, outcome, ports_with, sampled, word_under_way, written}
pub use Rattle.mic_datapath.specs.Next.{GoesTo, flag, next_address}
pub use Rattle.mic_datapath.specs.Places.{place_loaded, registers_at}
pub use Rattle.mic_datapath.specs.Registers.{NineRegisters, arrived, loaded, on_bus, ports_given}
