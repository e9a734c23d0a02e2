-- The words of other crates that this one uses.
pub use Rattle.mic_words.specs.Prelude.{before}
pub use Rattle.mic_words.specs.declared.machine.Machine.TheVariants.{Mic2}
pub use Rattle.micro_word.specs.Prelude.{alu, loads, shifted, statement_of}
pub use Rattle.micro_word.specs.declared.statement.BusSource.{BusSource}
pub use Rattle.micro_word.specs.declared.statement.Mem.{Mem}
pub use Rattle.micro_word.specs.declared.statement.Part.{Part}
pub use Rattle.micro_word.specs.declared.statement.Placed.{Placed}
pub use Rattle.micro_word.specs.declared.statement.PlacedNext.{PlacedNext}
pub use Rattle.console_port.specs.Prelude.{ChangesOnly, FailsAsRefused, Refusal, World}
pub use Rattle.mic_clock.specs.Prelude.{Buses, IsDecoded, Meaning, Outcome}
pub use Rattle.mic_clock.specs.declared.buses.Computed.{Computed}
pub use Rattle.mic_clock.specs.declared.buses.Drive.{Drive}
pub use Rattle.mic_clock.specs.declared.registers.Start.{Start}
pub use Rattle.mic_datapath.specs.Prelude.{IsTransfer, LeadsInside, NineRegisters, first_refusal, is_read, loaded, memory_refusal, next_address, outcome}
pub use Rattle.mic_datapath.specs.Prelude.{ports_given, registers_at, sampled, word_under_way, written}
pub use Rattle.mic2_fetch_unit.specs.Prelude.{Prefetch, sample_refusal}
