-- The words of other crates that this one uses.
pub use Rattle.std.specs.Borrow.{Bor}
pub use Rattle.mic_words.specs.declared.machine.Machine.{Machine}
pub use Rattle.mic_base.specs.Prelude.{HasCause, Puts, Rose}
pub use Rattle.console_port.specs.Prelude.{IsMap, StaysFlushed}
pub use Rattle.mic_clock.specs.Prelude.{BoardView, HasEndCause, IsRun, Meaning, RunIsCutByRead, RunIsCutByWrite}
pub use Rattle.mic_clock.specs.declared.end.End.{End}
pub use Rattle.mic_watched.specs.Prelude.{PrintsOf, ShowsCycles}
pub use Rattle.mic_watched.specs.declared.cycle.Cycle.{Cycle}
pub use Rattle.mal_parser.specs.Prelude.{MalView, SpellsProgram}
pub use Rattle.mal_shipped.specs.Prelude.{IsLoaded, listed_program}
pub use Rattle.mal_shipped.specs.declared.loaded.Loaded.{Loaded}
pub use Rattle.verifier_facts.specs.Prelude.{VerifiedView}
pub use Rattle.ijvm_simulation.specs.Prelude.{IsAtReset}
pub use Rattle.cli_outside.specs.Prelude.{Got, GotInPart, IsHad, IsNotHad, IsRefusal, LentView, OutsideView, Over, OverIfErr, Says, SinkState, TellsOnErr}
pub use Rattle.cli_outside.specs.Prelude.{name_in, out_of_memory, sink_of}
pub use Rattle.cli_watchers.specs.Prelude.{AreClockedAfter, AreLinesOf, AreRowsUpTo, Traced, accesses_of, cache_line, counts_of, profile_of_cycles}
pub use Rattle.cli_watchers.specs.Prelude.{profile_text}
pub use Rattle.cli_run_texts.specs.Prelude.{status_of}
pub use Rattle.cli_programs.specs.Prelude.{HasNoProgram, IsAcceptedProgram}
pub use Rattle.cli_micro.specs.Prelude.{IsRefusedText}
