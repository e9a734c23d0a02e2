-- The words of other crates that these proofs use.
pub use Rattle.std.proofs.Common.{Bool, Err, IsSome, List, None, Ok, OnErr, OnOk, Option, Result, Some, [], ap, append-nil, arith, codes, drop, false, inl, inr}
pub use Rattle.std.proofs.Common.{is_some, le-leb, length, min, nat_le, refl, subst, suc, sym, true, unwrap_or, zero, ℕ, ◌++◌, ◌+◌, ◌-◌, ◌<◌, ◌^◌, ◌∙◌, ◌∷◌}
pub use Rattle.std.proofs.Common.{◌≡◌, ◌≢◌, ◌≤◌, ◌⊎◌}
pub use Rattle.std.proofs.lemmas.Bool.{cases_lt}
pub use Rattle.std.proofs.lemmas.Bool.Decides.{leb_tells}
pub use Rattle.mic_base.specs.Prelude.{HasCause, Holds, IsFlushed, KeepsFront, Rose, no_rise, plain_left}
unfoldable pub use Rattle.mic_base.specs.Prelude.{hex_text, number_of}
pub use Rattle.micro_word.specs.Prelude.{ControlStore}
pub use Rattle.console_port.specs.Prelude.{BusView, Given, IsLost, Shows, Untaken, World}
pub use Rattle.console_port.specs.declared.map.MemoryMap.{MemoryMap}
pub use Rattle.mic_clock.specs.Prelude.{BoardView, Done, IsCutByFault, IsTurned, Meaning, MicroRun, NoFault, Outcome, Refused, ShowsAs, ShowsRun, UsesConsole}
pub use Rattle.mic_clock.specs.Prelude.{after_end_or_step, after_step, bounded, end_before, turn, turn_by, turns, word_at}
pub use Rattle.mic_clock.specs.declared.counts.Counts.{Counts}
pub use Rattle.mic_clock.specs.declared.end.End.{End}
pub use Rattle.mic_rewind.specs.Prelude.{GoesBack, HistoryView, Keeps, RewindView, Snapshot, appended, state_of}
pub use Rattle.ijvm_simulation.specs.Prelude.{reset_run}
pub use Rattle.cli_outside.specs.Prelude.{FilesState, Got, OutsideView, SinkState, SourceState, files_of, files_state, outside_view, sink_of, source_of}
pub use Rattle.cli_outside.specs.Prelude.{source_state}
pub use Rattle.cli_session.specs.Prelude.{Gone, IsCutShort, IsFrontOf, OnlyGives, Place, front_given, front_lost, front_same, front_then, held_front, in_part}
pub use Rattle.cli_session.specs.Prelude.{is_untaken, on_err_of, one_untaken, place, state_text, turn_gives, untaken_of, word_line, word_text}
unfoldable pub use Rattle.cli_session.specs.Prelude.{command_in}
pub use Rattle.cli_session.specs.declared.reading.Command.{Command}
pub use Rattle.cli_session.specs.declared.reading.CommandError.{CommandError}
pub use Rattle.cli_session.specs.declared.reading.CommandError.TheVariants.{BadCommand, BadNumber}
pub use Rattle.cli_rewind.specs.Moves.{Went}
pub use Rattle.cli_rewind.specs.Prelude.{Cut, Does, Follows, GoesForward, IsBrokenOff, IsCutForward, IsCutIn, IsFront, IsMoved, IsPassedOn, IsShown, IsTold}
pub use Rattle.cli_rewind.specs.Prelude.{IsToldInPart, Lasts, RewindingRules, RewindingView, Scene, Stand, StandsAt, StopsBy, Told, WasCut, at_reset, back}
pub use Rattle.cli_rewind.specs.Prelude.{back_text, command_of, forward_text, history_at, is_quit, kept, rewinding, rewinding_view, rules_of, run_at, scene}
pub use Rattle.cli_rewind.specs.Prelude.{shown_run, state_at, state_here, states_from}
pub use Rattle.cli_rewind.specs.declared.table.Verb.{Verb}
