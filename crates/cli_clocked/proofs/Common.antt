-- The words of other crates that these proofs use.
pub use Rattle.std.proofs.Common.{Bool, Err, List, None, Ok, Option, Some, [], ap, append-nil, arith, false, if◌then◌else◌, inl, inr, length, length-append}
pub use Rattle.std.proofs.Common.{max, nat_le, option_map, refl, rules, subst, suc, sym, take, true, unwrap_or, zero, ℕ, ◌%◌, ◌++◌, ◌+◌, ◌-◌, ◌<◌, ◌^◌, ◌∙◌}
pub use Rattle.std.proofs.Common.{◌∷◌, ◌≡◌, ◌≢◌, ◌≤◌}
pub use Rattle.std.proofs.Math.Seq.{take-nil}
pub use Rattle.mic_words.specs.declared.machine.Machine.{Machine}
pub use Rattle.mic_words.specs.declared.machine.Machine.TheVariants.{Mic1, Mic2}
pub use Rattle.mic_base.specs.Prelude.{Puts, Rose, puts_first, puts_then}
pub use Rattle.console_port.specs.Prelude.{Given, IsMap, StaysFlushed, Untaken, World}
pub use Rattle.console_port.specs.declared.map.TheConstants.{FRAME}
pub use Rattle.mem_cache.specs.declared.counts.CacheCounts.{CacheCounts}
pub use Rattle.mic_clock.specs.Prelude.{BoardView, Done, GoesOn, HasEndCause, Meaning, MicroRun, Outcome, Refused, after_end_or_step, after_step, bounded}
pub use Rattle.mic_clock.specs.Prelude.{counts_at, counts_between, end_before, last_cycles, start_run, turn, turns, word_at}
pub use Rattle.mic_clock.specs.declared.counts.Counts.{Counts}
pub use Rattle.mic_clock.specs.declared.end.End.{End}
pub use Rattle.mic_clock.specs.declared.registers.Registers.{Registers}
pub use Rattle.mic_watched.specs.Prelude.{CanRun, LeadsOver, PrintsOf, ShowsCycles, cycle_between, cycles_of, kept_of, shown, shown_where}
pub use Rattle.mic_watched.specs.declared.cycle.Cycle.{Cycle}
pub use Rattle.mal_parser.specs.Prelude.{MalView}
pub use Rattle.mal_shipped.specs.declared.loaded.Loaded.{Loaded}
pub use Rattle.verifier_facts.specs.Prelude.{VerifiedView}
pub use Rattle.ijvm_simulation.specs.Prelude.{IsAtReset}
pub use Rattle.cli_outside.specs.Prelude.{Got, GotInPart, IsHad, IsNotHad, LentView, OutsideView, Over, Said, Says, SinkState, Unsaid, refusal_by, sink_of}
pub use Rattle.cli_watchers.specs.Prelude.{AreClockedAfter, CacheKept, IsClockedAfter, Profile, SaysNothing, Silent, accesses_of, cache_line, counts_of}
pub use Rattle.cli_watchers.specs.Prelude.{kept_after, kept_of_cycles, profile_after, profile_of_cycles, profile_text, start_profile}
pub use Rattle.cli_run_texts.specs.Prelude.{status_of}
pub use Rattle.cli_run_texts.specs.Report.{report}
pub use Rattle.cli_programs.specs.Prelude.{IsAcceptedProgram, IsRefusedProgram}
pub use Rattle.cli_micro.specs.Prelude.{NoPlacement, names_inside, no_program}
pub use Rattle.cli_clocked.specs.Cached.{Ran}
pub use Rattle.cli_clocked.specs.Prelude.{Clocked, EndsPrepared, IsCached, IsPrepared, IsUnprepared, NoMicroprogram, NoProgram, NoneChosen, RunsThrough}
pub use Rattle.cli_clocked.specs.Prelude.{Unprepared, report_on}
pub use Rattle.cli_clocked.specs.Profiled.{Stopped, Whole}
pub use Rattle.cli_clocked.specs.declared.job.Job.{Job}
