-- The words of other crates that these proofs use.
pub use Rattle.std.proofs.Common.{Bool, Err, IfErr, IsTrue, List, None, Ok, OnErr, OnOk, Option, Result, Some, ap, arith, false, if◌then◌else◌, inl, is_ok}
pub use Rattle.std.proofs.Common.{is_some, length, nat_lt, refl, slice_index, subst, sym, true, ℕ, ◌%◌, ◌&&◌, ◌+◌, ◌-◌, ◌/◌, ◌==◌, ◌||◌, ◌∙◌, ◌≡◌, ◌≢◌, ◌≤◌}
pub use Rattle.std.proofs.lemmas.Bool.Decides.{nat_tests}
pub use Rattle.std.proofs.lemmas.Grind.{common_steps}
pub use Rattle.std.specs.Prelude.{⊤}
pub use Rattle.mic_words.specs.Prelude.{signed_byte}
pub use Rattle.mic_words.specs.declared.machine.Machine.TheVariants.{Mic2}
pub use Rattle.micro_word.specs.Prelude.{Valid, alu, bytes_shown, bytes_taken, fields_of, fits_side, is_byte, is_pair, jam_bits, may_be_b, mem_bits, mem_of}
pub use Rattle.micro_word.specs.Prelude.{names, place_on_bus, row, shifted}
unfoldable pub use Rattle.micro_word.specs.Prelude.{statement_of}
pub use Rattle.micro_word.specs.declared.layout.Fields.{Fields}
pub use Rattle.micro_word.specs.declared.statement.BusSource.{BusSource}
pub use Rattle.micro_word.specs.declared.statement.Mem.{Mem}
pub use Rattle.micro_word.specs.declared.statement.Placed.{Placed}
pub use Rattle.micro_word.specs.declared.statement.PlacedNext.{PlacedNext}
pub use Rattle.mic_alu.specs.Prelude.{controls_of, enabled, gates}
pub use Rattle.mic_alu.specs.declared.controls.Controls.{Controls}
pub use Rattle.console_port.specs.Prelude.{BusView, ChangesOnly, HasFaultCause, IsFault, IsLed, Refusal, Shows, StillTells, StreamsGoOn, World, refused_by}
pub use Rattle.mic_clock.specs.Prelude.{Done, IsEdge, IsTried, Outcome, buses_in, edge_passed, refusal_in}
pub use Rattle.mic_clock.specs.declared.buses.Computed.{Computed}
pub use Rattle.mic_clock.specs.declared.buses.Drive.{Drive}
pub use Rattle.mic_datapath.specs.Prelude.{Asks, IsTransfer, answered, edge_waits, first_clear, first_refusal, led_same, loaded, memory_refusal, next_address}
pub use Rattle.mic_datapath.specs.Prelude.{outcome, over_fails, ports_given, ports_with, refused_no_fault, registers_at, sampled, second_clear, unrefused}
pub use Rattle.mic_datapath.specs.Prelude.{word_under_way, written}
pub use Rattle.mic_datapath.specs.declared.ports.Ports.{Ports}
pub use Rattle.mic2_fetch_unit.specs.Prelude.{Prefetch, jump, sample_refusal}
unfoldable pub use Rattle.mic2_fetch_unit.specs.Prelude.{edge_refusal}
pub use Rattle.mic2_datapath.specs.Prelude.{AreLatches, HasComputed, HasFront, Micro, access_by, access_refusal, advanced, buses_by, buses_on, byte_at, clock}
pub use Rattle.mic2_datapath.specs.Prelude.{computed_on, demand, dispatch_bytes, flagged, is_stalled, jumps, mic2_meaning, micro_in, microstep, moved_on}
pub use Rattle.mic2_datapath.specs.Prelude.{operand_bytes, refusal, registers_in, result_of, settled, source, stalled, stalled_drive, stalled_value, step_if}
pub use Rattle.mic2_datapath.specs.Prelude.{unit_after, unit_refusal, unit_samples, value_of, world_after}
unfoldable pub use Rattle.mic2_datapath.specs.Prelude.{computed, driven, step_of_word}
pub use Rattle.mic2_datapath.specs.declared.latches.Latches.{Latches}
