-- The words of other crates that this one uses.
pub use Rattle.std.specs.Fmt.{decimal}
pub use Rattle.std.specs.List.{list_any}
pub use Rattle.mic_base.specs.Prelude.{HasCause, IsFlushed, KeepsFront, Puts, Rose, hex_text}
pub use Rattle.console_port.specs.Prelude.{KeepsMemoryAndInput, SinkGoesOn, StaysFlushed}
pub use Rattle.mic_clock.specs.Prelude.{AreCounts, BoardView, GoesOn, InTime, IsBelow, IsCountedTurn, IsCutByRead, IsLedTo, IsTurned, KeepsInTime, Meaning}
pub use Rattle.mic_clock.specs.Prelude.{MicroRun, RunIsCutByRead, ShowsAs, ShowsRun, TurnIsCut, number_of, since, state_line, turns, word_at}
pub use Rattle.mic_clock.specs.declared.counts.Boundary.{Boundary}
pub use Rattle.mic_clock.specs.declared.counts.Counts.{Counts}
pub use Rattle.mic_clock.specs.declared.end.End.{End}
pub use Rattle.mic_clock.specs.declared.registers.Registers.{Registers}
pub use Rattle.mal_parser.specs.Prelude.{MalView, fallback_of, label_at, parts_text}
pub use Rattle.store_placement.specs.Prelude.{IsAtNone, IsFilled, Places, demands_of}
pub use Rattle.ijvm_instr.specs.Prelude.{instr_at, instr_text}
pub use Rattle.ijvm_instr.specs.declared.instr.Instr.{Instr}
pub use Rattle.ijvm_image.specs.Prelude.{ImageView}
pub use Rattle.verifier_facts.specs.Prelude.{IsKind, VerifiedView}
pub use Rattle.verifier_facts.specs.declared.kind.Kind.TheVariants.{Start}
pub use Rattle.cli_outside.specs.Prelude.{Got, GotInPart, SinkState, SourceState, sink_of, source_of}
pub use Rattle.cli_session.specs.Prelude.{CommandForm, IsFrontOf, command_form, command_in, end_line, word_line}
pub use Rattle.cli_session.specs.declared.reading.Command.{Command}
pub use Rattle.cli_session.specs.declared.reading.CommandError.{CommandError}
pub use Rattle.cli_session.specs.declared.reading.CommandError.TheVariants.{BadCommand, BadNumber}
