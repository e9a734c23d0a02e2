-- The words of other crates that these proofs use.
pub use Rattle.std.proofs.Common.{Bool, List, None, Ok, Option, Result, Some, [], ap, append_assoc, arith, drop, false, get_or, if◌then◌else◌, inl, inr, length}
pub use Rattle.std.proofs.Common.{nat_lt, refl, slice_index, slice_set, subst, sym, take, take_all, true, unwrap_or, ℕ, ◌%◌, ◌++◌, ◌+◌, ◌/◌, ◌<◌, ◌==◌, ◌∙◌}
pub use Rattle.std.proofs.Common.{◌∷◌, ◌≡◌, ◌≢◌, ◌≤◌}
pub use Rattle.std.proofs.lemmas.List.Elements.{All-head, All-more, All-tail}
pub use Rattle.std.specs.List.{All}
pub use Rattle.std.specs.declared.alloc.AllocError.{AllocError}
pub use Rattle.mic_words.specs.Prelude.{is_negative, signed_byte}
unfoldable pub use Rattle.mic_words.specs.Prelude.{half}
pub use Rattle.micro_word.specs.Prelude.{alu, loads, shifted}
pub use Rattle.micro_word.specs.declared.statement.BusSource.{BusSource}
pub use Rattle.micro_word.specs.declared.statement.Mem.{Mem}
pub use Rattle.micro_word.specs.declared.statement.Placed.{Placed}
pub use Rattle.console_port.specs.Prelude.{Refusal, StackLimit, World, byte_of, console_at, next_byte}
unfoldable pub use Rattle.console_port.specs.Prelude.{byte_in, fetch_refusal, given_after, read_refusal, read_value, untaken_after, write_refusal}
pub use Rattle.console_port.specs.declared.map.TheConstants.{STACK_SIDE}
pub use Rattle.mic_clock.specs.Prelude.{Done, Outcome}
pub use Rattle.mic_datapath.specs.Prelude.{access_refusal, arrived, byte_refusal, byte_under_way, first_refusal, flag, memory_refusal, next_address, outcome}
pub use Rattle.mic_datapath.specs.Prelude.{ports_with, sampled, word_under_way, written}
pub use Rattle.mic_datapath.specs.declared.ports.Ports.{Ports}
pub use Rattle.mic1_datapath.specs.Prelude.{Micro, assigned, microstep, next_micro, result_of, settled, source}
pub use Rattle.micro_terms.specs.Prelude.{Environment, Fits, Grows, Holds}
pub use Rattle.mic1_cycles.specs.Prelude.{AccessLaw, AccessLaws, AreAnswered, AreRefused, CycleLaw, HasSigns, IsAccessed, IsByteIn, IsComputed, IsFetched}
pub use Rattle.mic1_cycles.specs.Prelude.{IsSigned, IsSignedIn, IsSite, IsTransferred, Knows, LeadsTo, Reads, RefusalLaws, Trail, assigned_symbols, given_by}
pub use Rattle.mic1_cycles.specs.Prelude.{micro_of, moved_symbols, ports_of, refusal_of, source_symbol, trail_of, word_in, world_of, written_by}
pub use Rattle.mic1_cycles.specs.declared.question.Answer.{Answer}
pub use Rattle.mic1_cycles.specs.declared.refusal.Forecast.TheVariants.{Refused}
pub use Rattle.mic1_cycles.specs.declared.refusal.Stop.{Stop}
pub use Rattle.mic1_cycles.specs.declared.refusal.Stop.TheVariants.{OutOfMap}
pub use Rattle.mic1_cycles.specs.declared.site.Site.{Site}
pub use Rattle.mic1_cycles.specs.declared.site.Site.TheVariants.{Console, Memory}
pub use Rattle.mic1_cycles.specs.declared.step.Stepped.{Stepped}
pub use Rattle.mic1_cycles.specs.declared.symbols.Byte.{Byte}
pub use Rattle.mic1_cycles.specs.declared.symbols.Symbols.{Symbols}
pub use Rattle.mic1_cycles.specs.declared.symbols.Write.{Write}
