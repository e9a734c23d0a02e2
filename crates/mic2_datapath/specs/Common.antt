-- The words of other crates that this one uses.
pub use Rattle.mic_words.specs.Prelude.{before, is_negative, plus, signed_byte, signed_pair}
pub use Rattle.mic_words.specs.declared.machine.Machine.TheVariants.{Mic2}
pub use Rattle.micro_word.specs.Prelude.{AreLines, AreSlots, addr_bits, alu, fields_of, is_byte, is_canonical, is_next, is_pair, is_valid, jam_bits, loads}
pub use Rattle.micro_word.specs.Prelude.{mem_of, microword_of, names, shifted, statement_of}
pub use Rattle.micro_word.specs.declared.lines.Lines.{Lines}
pub use Rattle.micro_word.specs.declared.lines.TheConstants.{NOTHING}
pub use Rattle.micro_word.specs.declared.statement.BusSource.{BusSource}
pub use Rattle.micro_word.specs.declared.statement.Mem.{Mem}
pub use Rattle.micro_word.specs.declared.statement.Part.{Part}
pub use Rattle.micro_word.specs.declared.statement.Placed.{Placed}
pub use Rattle.micro_word.specs.declared.statement.PlacedNext.{PlacedNext}
pub use Rattle.console_port.specs.Prelude.{BusView, ChangesOnly, FailsAsRefused, IsDoneUnless, Refusal, StreamsGoOn, World, byte_in}
pub use Rattle.console_port.specs.declared.fault.BusFault.{BusFault}
pub use Rattle.mic_clock.specs.Prelude.{Buses, IsDecoded, IsTried, Meaning, Outcome, start_buses}
pub use Rattle.mic_clock.specs.declared.buses.Computed.{Computed}
pub use Rattle.mic_clock.specs.declared.buses.Drive.{Drive}
pub use Rattle.mic_clock.specs.declared.registers.Registers.{Registers}
pub use Rattle.mic_clock.specs.declared.registers.Start.{Start}
pub use Rattle.mic_clock.specs.declared.registers.Tail.TheVariants.{Queue}
pub use Rattle.mic_datapath.specs.Prelude.{GoesTo, HasAccessed, IsTransfer, LeadsInside, LetsBytesWait, NineRegisters, first_refusal, loaded, memory_refusal}
pub use Rattle.mic_datapath.specs.Prelude.{next_address, on_bus, outcome, ports_given, registers_at, sampled, word_under_way, written}
pub use Rattle.mic2_fetch_unit.specs.Prelude.{Prefetch, StandsAt, at_start, edge, edge_refusal, jump, jump_refusal, sample_refusal, sampled_at}
