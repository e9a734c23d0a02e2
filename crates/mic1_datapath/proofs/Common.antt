-- The words of other crates that these proofs use.
pub use Rattle.std.proofs.Common.{Bool, Err, IsErrAnd, IsTrue, List, None, Ok, Option, Result, Some, ap, arith, false, if◌then◌else◌, is_some, length, refl}
pub use Rattle.std.proofs.Common.{slice_index, subst, sym, true, unwrap_or, ℕ, ◌%◌, ◌&&◌, ◌/◌, ◌<◌, ◌==◌, ◌∙◌, ◌≡◌, ◌≢◌}
pub use Rattle.std.specs.Prelude.{⊤}
pub use Rattle.mic_words.specs.Prelude.{is_negative, signed_byte}
pub use Rattle.mic_words.specs.declared.machine.Machine.TheVariants.{Mic1}
pub use Rattle.micro_word.specs.Prelude.{alu, fields_of, fits_side, may_be_b, mem_bits, mem_of, place_on_bus, shifted}
unfoldable pub use Rattle.micro_word.specs.Prelude.{statement_of}
pub use Rattle.micro_word.specs.declared.layout.Fields.{Fields}
pub use Rattle.micro_word.specs.declared.lines.Lines.{Lines}
pub use Rattle.micro_word.specs.declared.statement.BusSource.{BusSource}
pub use Rattle.micro_word.specs.declared.statement.Mem.{Mem}
pub use Rattle.micro_word.specs.declared.statement.Placed.{Placed}
pub use Rattle.mic_alu.specs.Prelude.{controls_of, enabled, gates}
pub use Rattle.mic_alu.specs.declared.controls.Controls.{Controls}
pub use Rattle.console_port.specs.Prelude.{BusView, ChangesOnly, ConsoleView, Given, IsLed, Refusal, Shows, StreamsGoOn, Untaken, World, refused_by}
pub use Rattle.console_port.specs.declared.fault.BusFault.{BusFault}
pub use Rattle.console_port.specs.declared.fault.BusFault.TheVariants.{ReadFault, WriteFault}
pub use Rattle.mic_clock.specs.Prelude.{Done, IsEdge, Outcome, buses_in, handed_on, start_buses}
pub use Rattle.mic_clock.specs.declared.buses.Computed.{Computed}
pub use Rattle.mic_clock.specs.declared.buses.Drive.{Drive}
pub use Rattle.mic_datapath.specs.Prelude.{Asks, IsAccess, LeadsInside, NineRegisters, access_refusal, answered, arrived, byte_under_way, edge_waits, led_same}
pub use Rattle.mic_datapath.specs.Prelude.{loaded, next_address, outcome, over_fails, place_loaded, registers_at, sampled, word_under_way, written}
pub use Rattle.mic_datapath.specs.declared.ports.Ports.{Ports}
pub use Rattle.mic1_datapath.specs.Prelude.{AreLatches, HasComputed, IsAtEdge, IsLast, IsTried, Micro, access_by, buses_by, clock, fetches, is_done}
pub use Rattle.mic1_datapath.specs.Prelude.{mic1_meaning, micro_in, microstep, moved_on, next_micro, ports_at, ports_of, reads, refusal, registers_in}
pub use Rattle.mic1_datapath.specs.Prelude.{result_of, settled, source, under_way, world_after}
unfoldable pub use Rattle.mic1_datapath.specs.Prelude.{computed, driven, step_of_word}
pub use Rattle.mic1_datapath.specs.declared.latches.Latches.{Latches}
