-- The words of other crates that these proofs use.
pub use Rattle.std.proofs.Common.{Bool, List, None, Option, Some, [], add-zero, ap, ap₂, arith, bit_and, bit_or, false, if◌then◌else◌, inl, inr, length, nat_lt}
pub use Rattle.std.proofs.Common.{refl, slice_index, subst, suc, sym, true, zero, ℕ, ◌%◌, ◌*◌, ◌++◌, ◌+◌, ◌<◌, ◌==◌, ◌||◌, ◌∙◌, ◌∷◌, ◌≡◌, ◌≤◌}
pub use Rattle.std.proofs.lemmas.Bool.{cases_Bool}
pub use Rattle.std.proofs.lemmas.Bool.Decides.{nat_tests}
pub use Rattle.mic_words.specs.Prelude.{before, is_negative, minus, next, plus}
unfoldable pub use Rattle.mic_words.specs.Prelude.{signed_byte, signed_pair, wrap}
pub use Rattle.mic_words.specs.declared.machine.Machine.TheVariants.{Mic2}
pub use Rattle.micro_word.specs.Prelude.{is_byte, is_pair, statement_of}
pub use Rattle.micro_word.specs.declared.statement.BusSource.{BusSource}
pub use Rattle.micro_word.specs.declared.statement.Mem.{Mem}
pub use Rattle.micro_word.specs.declared.statement.Mem.TheVariants.{Write}
pub use Rattle.micro_word.specs.declared.statement.Placed.{Placed}
pub use Rattle.micro_word.specs.declared.statement.PlacedNext.{PlacedNext}
pub use Rattle.micro_word.specs.declared.statement.PlacedNext.TheVariants.{Branch, Dispatch}
pub use Rattle.console_port.specs.Prelude.{Refusal, StackLimit, World}
unfoldable pub use Rattle.console_port.specs.Prelude.{byte_in, given_after, read_refusal, read_value, untaken_after, word_refusal, write_refusal}
pub use Rattle.mic_clock.specs.Prelude.{Done, Outcome, Refused, number_of}
pub use Rattle.mic_datapath.specs.Prelude.{NineRegisters, first_refusal, memory_refusal, on_bus, outcome, ports_given, sampled, written}
pub use Rattle.mic_datapath.specs.declared.ports.Ports.{Ports}
pub use Rattle.mic2_fetch_unit.specs.Prelude.{AtLeast, Bounds, Held, IsHeld, IsWait, Jumped, Lack, One, QueueLaw, StandsAt, Waits, WaitsFirst, WaitsLate}
pub use Rattle.mic2_fetch_unit.specs.Prelude.{WaitsOn, have_after, held_after, held_waited, is_enough, text_from, unit_at}
unfoldable pub use Rattle.mic2_fetch_unit.specs.Prelude.{edge, edge_refusal, jump}
pub use Rattle.mic2_datapath.specs.Prelude.{Micro, advanced, byte_at, demand, fetched, next_micro, operand_bytes, registers_in, source, unit_after}
pub use Rattle.mic2_datapath.specs.Prelude.{unit_refusal}
pub use Rattle.mic3_datapath.specs.Prelude.{Computed, Issued, Pipeline, begins, bytes_leaving, clock, computed, computed_in, cycle, cycle_with, dispatched}
pub use Rattle.mic3_datapath.specs.Prelude.{driven_by, from_computed, from_issued, from_retired, initial, is_held_up, is_jump_coming, issued, issued_by}
pub use Rattle.mic3_datapath.specs.Prelude.{issued_in, mem_in, mic3_meaning, refusal, retired, settled, waits, word_after, world_after}
unfoldable pub use Rattle.mic3_datapath.specs.Prelude.{driven, step_of_word}
pub use Rattle.mal_shipped.specs.Prelude.{HasShipped, statement_among, table2}
pub use Rattle.ijvm_instr.specs.Prelude.{target, word_of}
pub use Rattle.ijvm_instr.specs.declared.instr.Instr.{Instr}
pub use Rattle.ijvm_meaning.specs.Prelude.{State, cost, moved, start_of}
pub use Rattle.verifier_facts.specs.Prelude.{VerifiedView}
pub use Rattle.ijvm_simulation.specs.Calling.{called, cut_off, named, returned}
pub use Rattle.ijvm_simulation.specs.Images.{first, lands, map}
pub use Rattle.ijvm_simulation.specs.Words.{given_grows, grows_not}
pub use Rattle.ijvm_simulation.specs.Writes.{memory_set}
pub use Rattle.mic3_interpreter.specs.Prelude.{Stands, mic3_timing}
