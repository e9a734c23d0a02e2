-- The words of other crates that these proofs use.
pub use Rattle.std.proofs.Common.{Bool, IfSome, IsSome, IsTrue, List, MatchOption, None, Option, Some, [], ap, append-nil, arith, codes, false, if◌then◌else◌}
pub use Rattle.std.proofs.Common.{inl, inr, length, map, nat_le, nat_lt, refl, replicate, rules, slice_index, string_bytes, subst, suc, sym, true, zero, ℕ, ◌%◌}
pub use Rattle.std.proofs.Common.{◌&&◌, ◌*◌, ◌++◌, ◌+◌, ◌-◌, ◌<◌, ◌==◌, ◌∙◌, ◌∷◌, ◌≡◌, ◌≢◌, ◌≤◌, ◌⊎◌}
pub use Rattle.std.proofs.Math.Nat.{mod-lt}
pub use Rattle.std.proofs.lemmas.Bool.{cases_lt}
pub use Rattle.std.proofs.lemmas.Bool.Decides.{nat_tests}
pub use Rattle.std.proofs.lemmas.Grind.{same_number_lists}
pub use Rattle.std.proofs.lemmas.Option.{same_Some}
pub use Rattle.std.specs.Borrow.{Bor}
pub use Rattle.mic_words.specs.declared.machine.Machine.{Machine}
pub use Rattle.mic_words.specs.declared.machine.Machine.TheVariants.{Mic1, Mic2}
pub use Rattle.mic_base.specs.Prelude.{Contents, Rose, Tells, file_in, most_bytes}
pub use Rattle.micro_word.specs.Prelude.{ControlStore, is_next, statement_of}
pub use Rattle.micro_word.specs.declared.statement.Mem.{Mem}
pub use Rattle.micro_word.specs.declared.statement.Placed.{Placed}
pub use Rattle.micro_word.specs.declared.statement.PlacedNext.{PlacedNext}
pub use Rattle.console_port.specs.Prelude.{Given, HasTextWords, IsLoaded, Refusal, StaysFlushed, Untaken, World}
unfoldable pub use Rattle.console_port.specs.Prelude.{byte_in, given_after}
pub use Rattle.console_port.specs.declared.map.MemoryMap.{MemoryMap}
pub use Rattle.mic_clock.specs.Prelude.{BoardView, Done, HasEndCause, HasOneEnd, Meaning, MicroRun, NoFault, Outcome, Refused, ShowsRun, after_end_or_step}
pub use Rattle.mic_clock.specs.Prelude.{after_step, bounded, bounded_by, counts_after, end_before, state_line, turn, turn_by, turns, word_at}
pub use Rattle.mic_clock.specs.declared.counts.Boundary.{Boundary}
pub use Rattle.mic_clock.specs.declared.counts.Counts.{Counts}
pub use Rattle.mic_clock.specs.declared.end.End.{End}
pub use Rattle.mic_clock.specs.declared.registers.Registers.{Registers}
pub use Rattle.mic_datapath.specs.Prelude.{arrived, byte_under_way, flag, next_address, outcome, ports_given, sampled, written}
pub use Rattle.mic_datapath.specs.declared.ports.Ports.{Ports}
pub use Rattle.mic_watched.specs.Prelude.{ShowsCycles}
pub use Rattle.mic_watched.specs.declared.cycle.Cycle.{Cycle}
pub use Rattle.mic1_datapath.specs.Prelude.{IsReady, Micro, clock, mic1_meaning, micro_of, microstep, refusal, registers_of, result_of, settled, world_after}
unfoldable pub use Rattle.mic1_datapath.specs.Prelude.{driven, step_of_word}
pub use Rattle.mic2_fetch_unit.specs.Prelude.{edge_refusal}
pub use Rattle.mic2_datapath.specs.Prelude.{mic2_meaning}
pub use Rattle.mic3_datapath.specs.Prelude.{mic3_meaning, pipeline_of}
pub use Rattle.mal_parser.specs.Prelude.{MalView}
pub use Rattle.mal_shipped.specs.Prelude.{HasShipped, IsLoadedFor, ListingRow, listed_program, statement_among, table1}
unfoldable pub use Rattle.mal_shipped.specs.Prelude.{shipped}
pub use Rattle.mal_shipped.specs.declared.loaded.Loaded.{Loaded}
pub use Rattle.ijvm_meaning.specs.Prelude.{EndsBy, Finish, Passes, Point, TimedImage, Timing, first_point, timing_of}
pub use Rattle.ijvm_meaning.specs.declared.run.RunEnd.{RunEnd}
pub use Rattle.ijvm_reference.specs.Prelude.{Reports}
pub use Rattle.ijvm_reference.specs.declared.plain.PlainReport.{PlainReport}
pub use Rattle.verifier_facts.specs.Prelude.{IsAccepted, VerifiedView}
pub use Rattle.ijvm_simulation.specs.Prelude.{EndsAsDefined, HasRun, IsAtReset, IsCutByRead, IsCutByWrite, MeetNoBound, board_end, boundary_of, program, reset_run, told_of}
pub use Rattle.mic3_interpreter.specs.Prelude.{mic3_timing}
pub use Rattle.tiny_tree.specs.Prelude.{Ended, Program, meaning}
pub use Rattle.tiny_parser.specs.declared.error.TinyError.{TinyError}
pub use Rattle.tiny_compiler.specs.Prelude.{HasNoCode, IsCompiled}
pub use Rattle.cli_words.specs.Prelude.{Asked, Cache, HasLimits, Reference, Run, Text, Tiny, asked, machine_of, request_of}
pub use Rattle.cli_words.specs.declared.request.Processor.{Processor}
pub use Rattle.cli_words.specs.declared.request.Processor.TheVariants.{Datapath, Mic3}
pub use Rattle.cli_words.specs.declared.request.Request.{Request}
pub use Rattle.cli_words.specs.declared.table.CommandName.{CommandName}
pub use Rattle.cli_outside.specs.Prelude.{Did, Ends, FilesState, Got, IsFileRead, IsHad, IsNotHad, IsUnread, LentView, NotHad, OutsideView, Over, PrintsOnOut}
pub use Rattle.cli_outside.specs.Prelude.{PrintsTextOf, Said, Says, SinkState, SourceState, TellsOnErr, Unsaid, WritesThenPrints, files_of, given_back, name_in}
pub use Rattle.cli_outside.specs.Prelude.{out_of_memory, outside_view, sink_of, source_of, with_files}
pub use Rattle.cli_watchers.specs.Prelude.{accesses_of, cache_line, counts_of}
pub use Rattle.cli_run_texts.specs.Prelude.{clocked_head, cycles_of, head, last_boundary, plain_head, status_of}
pub use Rattle.cli_run_texts.specs.Report.{report}
pub use Rattle.cli_programs.specs.Prelude.{EndsOver, IsAcceptedProgram, IsReferenceRun, IsRefusedProgram, IsRefusedTiny, IsReported, Reported, SoakEnds}
pub use Rattle.cli_clocked.specs.Prelude.{Clocked, EndsCache, EndsOwnRun, EndsPrepared, IsCached, IsChosenMicroprogram, IsFirstBoard, IsOwnRun, IsProfiled}
pub use Rattle.cli_clocked.specs.Prelude.{IsTraced, IsUnprepared, NoMicroprogram, NoProgram, NoneChosen, RunsThrough, Unprepared, job_in, report_on}
pub use Rattle.cli_clocked.specs.declared.job.Job.{Job}
pub use Rattle.cli_session.specs.Prelude.{AreDone, EndsWithInput, Goes, IsNoInput, OnlyGives, most_lines, place}
pub use Rattle.cli_session.specs.declared.lines.Step.{Step}
pub use Rattle.cli_debug.specs.Prelude.{IsDebugged}
pub use Rattle.cli_rewind.specs.Prelude.{IsRewound, RewindingView, rewinding, status_after}
pub use Rattle.cli_call.specs.ClockedEnd.{NoRoom}
