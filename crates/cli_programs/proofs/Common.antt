-- The words of other crates that these proofs use.
pub use Rattle.std.proofs.Common.{Err, IfErr, List, None, Ok, Option, Result, Some, [], ap, arith, false, inl, inr, length, refl, rules, subst, sym, true, ℕ}
pub use Rattle.std.proofs.Common.{◌∙◌, ◌≡◌, ◌≢◌, ◌⊎◌}
pub use Rattle.std.proofs.lemmas.Result.{err_from_is_err_and}
pub use Rattle.mic_words.specs.declared.machine.Machine.{Machine}
pub use Rattle.mic_base.specs.Prelude.{no_rise}
pub use Rattle.console_port.specs.Prelude.{StaysFlushed, World}
pub use Rattle.console_port.specs.declared.map.MemoryMap.{MemoryMap}
pub use Rattle.mic_clock.specs.declared.counts.Counts.{Counts}
pub use Rattle.mic_clock.specs.declared.end.End.{End}
pub use Rattle.mic_clock.specs.declared.registers.Registers.{Registers}
pub use Rattle.ijvm_image.specs.Prelude.{ImageView, IsFileOf, IsRefused, IsWithinLimits}
pub use Rattle.ijvm_image.specs.declared.image.ImageError.{ImageError}
pub use Rattle.ijvm_meaning.specs.Prelude.{Timing}
pub use Rattle.ijvm_reference.specs.Prelude.{HasRunCause, IsRunReport}
pub use Rattle.ijvm_reference.specs.declared.plain.PlainEnd.{PlainEnd}
pub use Rattle.ijvm_reference.specs.declared.plain.PlainReport.{PlainReport}
pub use Rattle.verifier_facts.specs.Prelude.{IsMainCount, IsTrueOf, VerifiedView, one_count}
pub use Rattle.verifier_facts.specs.declared.error.VerifyError.{VerifyError}
pub use Rattle.ijvm_program.specs.Prelude.{ProgramView}
pub use Rattle.ijvm_asm.specs.Prelude.{SpellsProgram, is_memory}
pub use Rattle.ijvm_asm.specs.declared.error.AsmError.{AsmError}
pub use Rattle.method_linker.specs.declared.error.LinkError.{LinkError}
pub use Rattle.ijvm_simulation.specs.Prelude.{HasRun, board_end}
pub use Rattle.tiny_parser.specs.declared.error.TinyError.{TinyError}
pub use Rattle.tiny_compiler.specs.Prelude.{HasNoCode}
pub use Rattle.cli_outside.specs.Prelude.{IsRefusal, LentView, OutsideView, Over, PrintsOnOut, by_reason, refusal_by, refused, unread}
pub use Rattle.cli_outside.specs.declared.refusal.Refusal.{Refusal}
pub use Rattle.cli_run_texts.specs.Prelude.{status_of}
pub use Rattle.cli_program_texts.specs.Prelude.{image_reason, link_reason, source_reason, verify_reason}
pub use Rattle.cli_programs.specs.Prelude.{AsFile, AsSource, CutByRead, CutByWrite, IsAcceptedProgram, IsGenerated, IsNoSource, IsOf, IsRefusalByAll}
pub use Rattle.cli_programs.specs.Prelude.{IsRefusedProgram, IsRefusedTiny, IsReported, IsSource, NoImage, NoProgram, NoRoom, NoSource, NotAccepted, NotLinked}
pub use Rattle.cli_programs.specs.Prelude.{Reported, Short, SoakEnds, begins_image, soak_bound, soak_summary, tiny_reason, verified_program}
pub use Rattle.cli_programs.specs.Reference.{Ran}
