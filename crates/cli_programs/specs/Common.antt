-- The words of other crates that this one uses.
pub use Rattle.std.specs.Fmt.{decimal, signed_decimal}
pub use Rattle.std.specs.Int.{cast_signed, w32}
pub use Rattle.mic_words.specs.declared.machine.Machine.{Machine}
pub use Rattle.mic_base.specs.Prelude.{Rose, most_bytes}
pub use Rattle.console_port.specs.Prelude.{IsMap, StaysFlushed, World}
pub use Rattle.console_port.specs.declared.map.MemoryMap.{MemoryMap}
pub use Rattle.console_port.specs.declared.map.TheConstants.MemoryMap.{STANDARD}
pub use Rattle.mic_clock.specs.Prelude.{BoardView, Meaning}
pub use Rattle.mic_clock.specs.declared.counts.Counts.{Counts}
pub use Rattle.mic_clock.specs.declared.end.End.{End}
pub use Rattle.ijvm_image.specs.Prelude.{ImageView, IsFileOf, IsRefused, IsWithinLimits, file_of}
pub use Rattle.ijvm_image.specs.declared.image.ImageError.{ImageError}
pub use Rattle.ijvm_meaning.specs.Prelude.{TimedImage, Timing, timing_of}
pub use Rattle.ijvm_reference.specs.declared.plain.PlainReport.{PlainReport}
pub use Rattle.verifier_facts.specs.Prelude.{IsAccepted, IsTrueOf, VerifiedView}
pub use Rattle.verifier_facts.specs.declared.error.VerifyError.{VerifyError}
pub use Rattle.ijvm_soak.specs.Prelude.{generated}
pub use Rattle.ijvm_program.specs.Prelude.{ProgramView}
pub use Rattle.ijvm_asm.specs.Prelude.{SpellsProgram}
pub use Rattle.ijvm_asm.specs.declared.error.AsmError.{AsmError}
pub use Rattle.method_linker.specs.Prelude.{IsLinked}
pub use Rattle.method_linker.specs.declared.error.LinkError.{LinkError}
pub use Rattle.ijvm_simulation.specs.Prelude.{HasRun, board_end}
pub use Rattle.tiny_parser.specs.declared.error.TinyError.{TinyError}
pub use Rattle.tiny_compiler.specs.Prelude.{HasNoCode, IsCompiled}
pub use Rattle.cli_outside.specs.Prelude.{Ends, IsHad, IsNotHad, IsRefusal, OutsideView, Over, OverIfErr, PrintsOnOut, PrintsTextOf, Says, TellsOnErr}
pub use Rattle.cli_outside.specs.Prelude.{WritesThenPrints, of_file, of_line, out_of_memory}
pub use Rattle.cli_outside.specs.declared.refusal.Refusal.{Refusal}
pub use Rattle.cli_run_texts.specs.Prelude.{clocked_end, clocked_head, plain_head, status_of}
pub use Rattle.cli_program_texts.specs.Prelude.{Lists, Summarizes, image_reason, link_reason, sizes, source_reason, verify_reason}
