-- The words of other crates that this one uses.
pub use Rattle.mic_words.specs.Prelude.{is_negative, signed_byte}
pub use Rattle.mic_words.specs.declared.machine.Machine.TheVariants.{Mic1}
pub use Rattle.micro_word.specs.Prelude.{AreLines, alu, fields_of, is_canonical, is_valid, mem_of, microword_of, shift_of, shifted, statement_of}
pub use Rattle.micro_word.specs.declared.lines.Lines.{Lines}
pub use Rattle.micro_word.specs.declared.lines.TheConstants.{NOTHING}
pub use Rattle.micro_word.specs.declared.statement.BusSource.{BusSource}
pub use Rattle.micro_word.specs.declared.statement.Mem.{Mem}
pub use Rattle.micro_word.specs.declared.statement.Part.{Part}
pub use Rattle.micro_word.specs.declared.statement.Placed.{Placed}
pub use Rattle.micro_word.specs.declared.statement.PlacedNext.{PlacedNext}
pub use Rattle.console_port.specs.Prelude.{BusView, Refusal, World, byte_in}
pub use Rattle.mic_clock.specs.Prelude.{IsDecoded, IsEdgeInside, Meaning, Outcome}
pub use Rattle.mic_clock.specs.declared.buses.Computed.{Computed}
pub use Rattle.mic_clock.specs.declared.buses.Drive.{Drive}
pub use Rattle.mic_clock.specs.declared.registers.Registers.{Registers}
pub use Rattle.mic_clock.specs.declared.registers.Start.{Start}
pub use Rattle.mic_clock.specs.declared.registers.Tail.TheVariants.{Mbr}
pub use Rattle.mic_datapath.specs.Prelude.{GoesTo, NineRegisters, access_refusal, arrived, byte_under_way, loaded, next_address, on_bus, outcome, ports_given}
pub use Rattle.mic_datapath.specs.Prelude.{sampled, word_under_way, written}
pub use Rattle.mic_datapath.specs.declared.ports.Ports.{Ports}
