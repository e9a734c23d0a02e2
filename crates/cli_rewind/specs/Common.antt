-- The words of other crates that this one uses.
pub use Rattle.std.specs.Fmt.{decimal}
pub use Rattle.mic_base.specs.Prelude.{IsFlushed, KeepsFront, Rose, hex_text, plain_left}
pub use Rattle.mic_base.specs.declared.plain.source.PlainSource.{PlainSource}
pub use Rattle.console_port.specs.Prelude.{IsMap, Shows, StaysFlushed, World}
pub use Rattle.mic_clock.specs.Prelude.{Meaning, MicroRun, ShowsRun, UsesConsole, tick_of, turns, word_at}
pub use Rattle.mic_clock.specs.declared.counts.Counts.{Counts}
pub use Rattle.mic_clock.specs.declared.end.End.{End}
pub use Rattle.mic_rewind.specs.Prelude.{HistoryView, RewindView, Snapshot, snapshot_of}
pub use Rattle.mic_rewind.specs.declared.moment.Moment.{Moment}
pub use Rattle.mal_parser.specs.Prelude.{MalView}
pub use Rattle.mal_shipped.specs.declared.loaded.Loaded.{Loaded}
pub use Rattle.verifier_facts.specs.Prelude.{VerifiedView}
pub use Rattle.ijvm_simulation.specs.Prelude.{reset_run}
pub use Rattle.cli_outside.specs.Prelude.{FilesState, Got, GotInPart, LentView, OutsideView, Over, SinkState, SourceState, TellsOnErr, name_in, out_of_memory}
pub use Rattle.cli_outside.specs.Prelude.{outside_view, sink_of}
pub use Rattle.cli_clocked.specs.Prelude.{EndsPrepared, IsFirstBoard, job_in}
pub use Rattle.cli_clocked.specs.declared.job.Job.{Job}
pub use Rattle.cli_clocked.specs.declared.preparing.Prepared.{Prepared}
pub use Rattle.cli_session.specs.Prelude.{CommandForm, EndsWithInput, Goes, Gone, IsCutShort, IsFrontOf, OnlyGives, SessionMeaning, command_form, command_in}
pub use Rattle.cli_session.specs.Prelude.{end_line, is_quit_in, most_lines, place, state_text, word_line}
pub use Rattle.cli_session.specs.declared.lines.Step.{Step}
pub use Rattle.cli_session.specs.declared.reading.Command.{Command}
pub use Rattle.cli_session.specs.declared.reading.CommandError.{CommandError}
pub use Rattle.cli_session.specs.declared.reading.CommandError.TheVariants.{BadCommand, BadNumber}
