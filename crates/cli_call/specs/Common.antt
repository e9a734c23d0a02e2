-- The words of other crates that this one uses.
pub use Rattle.mic_words.specs.declared.machine.Machine.{Machine}
pub use Rattle.mic_words.specs.declared.machine.Machine.TheVariants.{Mic1, Mic2}
pub use Rattle.mic_base.specs.Prelude.{Contents, Rose, Tells, file_in, most_bytes}
pub use Rattle.console_port.specs.Prelude.{IsLoaded, IsMap, StaysFlushed, World}
pub use Rattle.console_port.specs.declared.map.MemoryMap.{MemoryMap}
pub use Rattle.mic_clock.specs.Prelude.{BoardView, Meaning, MicroRun, state_line, turns}
pub use Rattle.mic_clock.specs.declared.counts.Counts.{Counts}
pub use Rattle.mic_clock.specs.declared.end.End.{End}
pub use Rattle.mic_clock.specs.declared.registers.Registers.{Registers}
pub use Rattle.mic_watched.specs.Prelude.{cycles_of}
pub use Rattle.mic_watched.specs.declared.cycle.Cycle.{Cycle}
pub use Rattle.mic1_datapath.specs.Prelude.{IsReady, Micro, mic1_meaning, micro_of, registers_of}
pub use Rattle.mic2_datapath.specs.Prelude.{mic2_meaning}
pub use Rattle.mic3_datapath.specs.Prelude.{mic3_meaning, pipeline_of}
pub use Rattle.mal_parser.specs.Prelude.{canonical_text}
pub use Rattle.mal_shipped.specs.Prelude.{HasShipped, listed_program}
pub use Rattle.ijvm_meaning.specs.Prelude.{Timing, timing_of}
pub use Rattle.ijvm_reference.specs.declared.plain.PlainReport.{PlainReport}
pub use Rattle.verifier_facts.specs.Prelude.{VerifiedView}
pub use Rattle.ijvm_simulation.specs.Prelude.{HasRun, IsCutByRead, IsCutByWrite, board_end, reset_run, told_of}
pub use Rattle.mic3_interpreter.specs.Prelude.{mic3_timing}
pub use Rattle.tiny_tree.specs.Prelude.{Ended, Program, meaning}
pub use Rattle.tiny_parser.specs.Prelude.{Spells}
pub use Rattle.tiny_compiler.specs.Prelude.{IsCompiled}
pub use Rattle.cli_words.specs.Prelude.{Asked, Cache, HasLimits, Reference, Run, Text, Tiny, asked, form_for, is_in, machine_of, request_of}
pub use Rattle.cli_words.specs.declared.request.Processor.{Processor}
pub use Rattle.cli_words.specs.declared.request.Processor.TheVariants.{Datapath, Mic3}
pub use Rattle.cli_words.specs.declared.table.CommandName.{CommandName}
pub use Rattle.cli_outside.specs.Prelude.{Got, IsFileRead, LentView, OutsideView, Over, PrintsOnOut, PrintsTextOf, Says, TellsOnErr, files_of, out_of_memory}
pub use Rattle.cli_outside.specs.Prelude.{outside_view, sink_of, source_of}
pub use Rattle.cli_watchers.specs.Prelude.{accesses_of, cache_line, counts_of}
pub use Rattle.cli_run_texts.specs.Prelude.{plain_head, status_of}
pub use Rattle.cli_run_texts.specs.Report.{report}
pub use Rattle.cli_program_texts.specs.Prelude.{Lists, Summarizes}
pub use Rattle.cli_programs.specs.Prelude.{Assembles, Compiles, EndsOver, EndsOverTiny, IsReferenceRun, SoakEnds}
pub use Rattle.cli_micro.specs.Prelude.{MicroAnswers, PrintMicroAnswers}
pub use Rattle.cli_clocked.specs.Prelude.{EndsCache, EndsOwnRun, EndsProfile, EndsTrace, job_in, report_on}
pub use Rattle.cli_clocked.specs.declared.job.Job.{Job}
pub use Rattle.cli_session.specs.Prelude.{OnlyGives}
pub use Rattle.cli_debug.specs.Prelude.{EndsDebug}
pub use Rattle.cli_rewind.specs.Prelude.{EndsRewind}
