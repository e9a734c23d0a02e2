-- The words of other crates that this one uses.
pub use Rattle.std.proofs.lemmas.Bool.{cases_lt}
pub use Rattle.std.proofs.lemmas.Bool.Decides.{nat_tests}
pub use Rattle.std.proofs.lemmas.List.{append-nil, length-replicate, set_comm, set_past}
pub use Rattle.std.proofs.lemmas.List.Elements.{All-get_or}
pub use Rattle.std.proofs.lemmas.Option.{get_or_from_slice_get, none-some, same_Some, slice_get_within}
pub use Rattle.mic_words.specs.Prelude.{before, is_negative, minus, next, plus, signed_byte, signed_pair}
unfoldable pub use Rattle.mic_words.specs.Prelude.{wrap}
pub use Rattle.console_port.specs.Prelude.{HasTextWords, IsLoaded, LosesLast, SinkGoesOn, StackLimit, Untaken, World, after_read, after_write, next_byte}
unfoldable pub use Rattle.console_port.specs.Prelude.{byte_in, fetch_refusal, given_after, read_refusal, read_value, untaken_after, write_refusal}
pub use Rattle.mic_clock.specs.Prelude.{BoardView, Done, HasEndCause, IsClocking, IsLedTo, Leads, Meaning, MicroRun, NoFault, Outcome, ReadsConsole, Refused}
pub use Rattle.mic_clock.specs.Prelude.{ShowsRun, UsesConsole, number_of, turns, word_at}
pub use Rattle.mic_clock.specs.declared.counts.Boundary.{Boundary}
pub use Rattle.mic_clock.specs.declared.end.End.{End}
pub use Rattle.ijvm_instr.specs.Prelude.{instr_at, target, word_of}
pub use Rattle.ijvm_instr.specs.declared.instr.Instr.{Instr}
pub use Rattle.ijvm_image.specs.Prelude.{ImageView, IsImage, method_at}
unfoldable pub use Rattle.ijvm_image.specs.Prelude.{others, params}
pub use Rattle.ijvm_image.specs.declared.method.Method.{Method}
pub use Rattle.ijvm_meaning.specs.Prelude.{AreWords, ComesTo, EndsBy, Errs, Finish, Frame, Goes, Halts, HasWords, IsWord, Limits, Point, State, StepOutcome}
pub use Rattle.ijvm_meaning.specs.Prelude.{Stuck, TimedImage, Timing, are_equal, base, called, cost, first_point, frame_end, frames_of, in_method, is_own}
pub use Rattle.ijvm_meaning.specs.Prelude.{kept_words, lv_of, moved, onto, operands_at, point_after, sp_of, start_of, step_outcome, taken, tests, way}
pub use Rattle.ijvm_meaning.specs.Prelude.{with_local}
pub use Rattle.ijvm_meaning.specs.declared.run.RunEnd.{RunEnd}
pub use Rattle.verifier_facts.specs.Prelude.{Finds, IsAccepted, VerifiedView}
