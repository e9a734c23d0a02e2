-- The words of other crates that this one uses.
pub use Rattle.std.specs.List.{All}
pub use Rattle.mic_words.specs.Prelude.{signed_byte}
pub use Rattle.micro_word.specs.Prelude.{alu, loads, shifted}
pub use Rattle.micro_word.specs.declared.destination.Destination.{Destination}
pub use Rattle.micro_word.specs.declared.statement.BusSource.{BusSource}
pub use Rattle.micro_word.specs.declared.statement.Mem.{Mem}
pub use Rattle.micro_word.specs.declared.statement.Part.{Part}
pub use Rattle.micro_word.specs.declared.statement.Placed.{Placed}
pub use Rattle.micro_word.specs.declared.statement.Test.{Test}
pub use Rattle.console_port.specs.Prelude.{OutOfMap, Refusal, StackLimit, World, byte_in, console_at, fetch_refusal, next_byte, read_refusal, write_refusal}
pub use Rattle.console_port.specs.declared.map.TheConstants.{STACK_SIDE}
pub use Rattle.mic_clock.specs.Prelude.{Done, Refused}
pub use Rattle.mic_datapath.specs.Prelude.{access_refusal, byte_refusal, byte_under_way, flag, memory_refusal, next_address, ports_with, sampled}
pub use Rattle.mic_datapath.specs.Prelude.{word_under_way, written}
pub use Rattle.mic_datapath.specs.declared.ports.Ports.{Ports}
pub use Rattle.mic1_datapath.specs.Prelude.{Micro, microstep}
pub use Rattle.micro_terms.specs.Prelude.{Environment, Holds, IsIn}
