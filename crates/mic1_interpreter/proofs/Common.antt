-- The words of other crates that these proofs use.
pub use Rattle.std.proofs.Common.{Bool, List, None, Option, Some, [], add-zero, add_comm, ap, ap₂, arith, bit_and, bit_or, false, if◌then◌else◌, inl, inr}
pub use Rattle.std.proofs.Common.{length, length-set, nat_lt, refl, slice_index, subst, suc, sym, true, zero, ℕ, ℤ, ◌%◌, ◌*◌, ◌++◌, ◌+◌, ◌<◌, ◌==◌, ◌^◌, ◌∙◌}
pub use Rattle.std.proofs.Common.{◌∷◌, ◌≡◌}
pub use Rattle.std.proofs.lemmas.Bool.{cases_Bool, cases_lt}
pub use Rattle.std.proofs.lemmas.Bool.Decides.{nat_tests}
pub use Rattle.std.proofs.lemmas.Nat.{and_comm, or_comm, or_shifted}
pub use Rattle.mic_words.specs.Prelude.{before, is_negative, minus, next, plus}
unfoldable pub use Rattle.mic_words.specs.Prelude.{signed_byte, signed_pair, wrap}
pub use Rattle.mic_words.specs.declared.machine.Machine.TheVariants.{Mic1}
pub use Rattle.micro_word.specs.Prelude.{statement_of}
pub use Rattle.micro_word.specs.declared.statement.Mem.{Mem}
pub use Rattle.micro_word.specs.declared.statement.Mem.TheVariants.{Write}
pub use Rattle.micro_word.specs.declared.statement.Placed.{Placed}
pub use Rattle.console_port.specs.Prelude.{Refusal, StackLimit, World, byte_in, fetch_refusal, read_value}
pub use Rattle.mic_clock.specs.Prelude.{Done, Refused}
pub use Rattle.mic_datapath.specs.Prelude.{byte_refusal, first_refusal, memory_refusal, outcome, sampled, written}
pub use Rattle.mic_datapath.specs.declared.ports.Ports.{Ports}
pub use Rattle.mic1_datapath.specs.Prelude.{Micro, clock, mic1_meaning, microstep, ports_of, refusal, settled, world_after}
unfoldable pub use Rattle.mic1_datapath.specs.Prelude.{driven, step_of_word}
pub use Rattle.mal_shipped.specs.Prelude.{HasShipped, statement_among, table1}
pub use Rattle.ijvm_instr.specs.Prelude.{target, word_of}
pub use Rattle.ijvm_instr.specs.declared.instr.Instr.{Instr}
pub use Rattle.ijvm_image.specs.declared.method.Method.{Method}
pub use Rattle.ijvm_meaning.specs.Prelude.{State, cost, moved, start_of, timing_of}
pub use Rattle.verifier_facts.specs.Prelude.{VerifiedView}
pub use Rattle.ijvm_simulation.specs.Accesses.{fetch_ok}
pub use Rattle.ijvm_simulation.specs.Images.{first, lands, map}
pub use Rattle.ijvm_simulation.specs.Prelude.{Boots, Fine, Grows, HaltsAndErrs, HasWord, IsNext, Lands, Loads, Moment, Moves, OnDone, Origin, Overran, Overruns}
pub use Rattle.ijvm_simulation.specs.Prelude.{RegistersStand, ShowsState, Stops, Takes, Went, address_after, is_inside, jump, last, left_of, outcome_at, pass}
pub use Rattle.ijvm_simulation.specs.Prelude.{pass_on, reset_moment, stalls_at}
pub use Rattle.ijvm_simulation.specs.Words.{before_is, byte_bound, byte_kept, given_grows, grows_not, next_is, plus_comm, wrap_small}
pub use Rattle.mic1_interpreter.specs.Prelude.{Stands}
