-- The words of other crates that these proofs use.
pub use mir.Val.{sel}
pub use Rattle.std.proofs.Common.{All, Bool, Err, IfSome, List, None, Ok, Option, Result, Some, [], ap, append-nil, append_assoc, ap₂, arith, bit_and, bit_or}
pub use Rattle.std.proofs.Common.{false, if◌then◌else◌, inl, inr, is_some, leb-false, length, nat_le, nat_lt, negsuc, pos, refl, replicate, slice_get}
pub use Rattle.std.proofs.Common.{slice_index, subst, suc, suc-add, sym, true, zero, zero-add, ℕ, ℤ, ◌&&◌, ◌*◌, ◌++◌, ◌+◌, ◌-◌, ◌<◌, ◌==◌, ◌∙◌, ◌∷◌, ◌≡◌, ◌≢◌}
pub use Rattle.std.proofs.Common.{◌≤◌}
pub use Rattle.std.proofs.lemmas.Bool.{cases_Bool, cases_lt, lt-leb}
pub use Rattle.std.proofs.lemmas.Bool.Decides.{nat_tests}
pub use Rattle.std.proofs.lemmas.List.{length-replicate}
pub use Rattle.std.proofs.lemmas.Option.{none-some, same_Some}
pub use Rattle.std.specs.Int.{cast_signed, w16, w8}
pub use Rattle.mic_words.specs.Prelude.{is_negative, minus, plus}
unfoldable pub use Rattle.mic_words.specs.Prelude.{signed_byte, signed_pair}
pub use Rattle.mic_base.specs.Prelude.{Holds}
pub use Rattle.micro_word.specs.Prelude.{ControlStore}
pub use Rattle.console_port.specs.Prelude.{Given, IsLoaded, StackLimit, StillTells, TellsLeft, Untaken, World, byte_in, next_byte}
pub use Rattle.mic_clock.specs.Prelude.{BoardView, Done, IsCutByRead, IsCutByWrite, IsLedTo, Leads, Meaning, MicroRun, Outcome, Refused, ShowsRun}
pub use Rattle.mic_clock.specs.Prelude.{after_end_or_step, after_step, bounded, bounded_by, completes, end_before, last_cycles, number_of, turn, turn_by, turns}
pub use Rattle.mic_clock.specs.Prelude.{word_at}
pub use Rattle.mic_clock.specs.declared.counts.Boundary.{Boundary}
pub use Rattle.mic_clock.specs.declared.counts.Counts.{Counts}
pub use Rattle.mic_clock.specs.declared.end.End.{End}
pub use Rattle.ijvm_instr.specs.Prelude.{begun_at, byte_below, operand_bytes, prefix, row_of, size_of, whole, word_of}
unfoldable pub use Rattle.ijvm_instr.specs.Prelude.{instr_at, of_bytes}
pub use Rattle.ijvm_instr.specs.declared.instr.Instr.{Instr}
pub use Rattle.ijvm_image.specs.Prelude.{ImageView, IsImage, method_at}
pub use Rattle.ijvm_image.specs.declared.method.Method.{Method}
pub use Rattle.ijvm_meaning.specs.declared.run.RunEnd.{RunEnd}
pub use Rattle.verifier_facts.specs.Prelude.{Accepts, Finds, IsAccepted, IsMainCount, KeepsSound, VerifiedView}
pub use Rattle.ijvm_simulation.specs.Reset.{IsAtReset, reset_run}
