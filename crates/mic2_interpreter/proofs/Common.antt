-- The words of other crates that these proofs use.
pub use Rattle.std.proofs.Common.{Bool, List, None, Option, Some, [], add-zero, ap, ap₂, arith, bit_and, bit_or, false, if◌then◌else◌, inl, inr, length, nat_lt}
pub use Rattle.std.proofs.Common.{refl, slice_index, subst, suc, sym, true, zero, ℕ, ◌%◌, ◌*◌, ◌++◌, ◌+◌, ◌<◌, ◌==◌, ◌∙◌, ◌∷◌, ◌≡◌, ◌≤◌}
pub use Rattle.std.proofs.lemmas.Bool.{cases_Bool}
pub use Rattle.std.proofs.lemmas.Bool.Decides.{nat_tests}
pub use Rattle.mic_words.specs.Prelude.{before, is_negative, minus, next, plus, signed_byte, signed_pair}
unfoldable pub use Rattle.mic_words.specs.Prelude.{wrap}
pub use Rattle.mic_words.specs.declared.machine.Machine.TheVariants.{Mic2}
pub use Rattle.micro_word.specs.Prelude.{alu, is_byte, is_pair, shifted, statement_of}
pub use Rattle.micro_word.specs.declared.statement.BusSource.{BusSource}
pub use Rattle.micro_word.specs.declared.statement.Mem.{Mem}
pub use Rattle.micro_word.specs.declared.statement.Mem.TheVariants.{Write}
pub use Rattle.micro_word.specs.declared.statement.Part.{Part}
pub use Rattle.micro_word.specs.declared.statement.Placed.{Placed}
pub use Rattle.micro_word.specs.declared.statement.PlacedNext.{PlacedNext}
pub use Rattle.micro_word.specs.declared.statement.PlacedNext.TheVariants.{Dispatch}
pub use Rattle.console_port.specs.Prelude.{Refusal, StackLimit, World, byte_in, read_value}
pub use Rattle.mic_datapath.specs.declared.ports.Ports.{Ports}
pub use Rattle.mic2_fetch_unit.specs.Prelude.{AtLeast, Bounds, Held, IsHeld, IsWait, Jumped, Lack, One, Prefetch, QueueLaw, StandsAt, Waits, WaitsLate, WaitsOn}
pub use Rattle.mic2_fetch_unit.specs.Prelude.{edge, edge_refusal, have_after, held_after, held_waited, is_enough, text_from, unit_at}
pub use Rattle.mal_shipped.specs.Prelude.{HasShipped, statement_among, table2}
pub use Rattle.ijvm_instr.specs.Prelude.{target, word_of}
pub use Rattle.ijvm_instr.specs.declared.instr.Instr.{Instr}
pub use Rattle.ijvm_meaning.specs.Prelude.{State, cost, moved, start_of, timing_of}
pub use Rattle.verifier_facts.specs.Prelude.{VerifiedView}
pub use Rattle.ijvm_simulation.specs.Images.{first, lands, map}
pub use Rattle.ijvm_simulation.specs.Places.{Counts, Place, byte_after, counts, entry_at, jumps, pair_after, place_at, place_on, signed_pair_at, wide_after}
pub use Rattle.ijvm_simulation.specs.Prelude.{Boots, Fine, Grows, HaltsAndErrs, HasWord, IsMemory, IsNext, Loads, Moment, OnDone, Origin, Overran}
pub use Rattle.ijvm_simulation.specs.Prelude.{RegistersStand, ShowsState, Went, address_after, is_inside, jump, last, left_of, outcome_at, pass, pass_on}
pub use Rattle.ijvm_simulation.specs.Prelude.{reset_moment, stalls_at}
pub use Rattle.ijvm_simulation.specs.Words.{given_grows, grows_not}
pub use Rattle.mic2_interpreter.specs.Prelude.{BootsWithStall, MovesWithStalls, OverrunsWithStalls, Stands, TakesWithStalls, stalls_of}
