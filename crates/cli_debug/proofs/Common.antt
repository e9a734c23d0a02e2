-- The words of other crates that these proofs use.
pub use Rattle.std.proofs.Common.{Bool, Err, IfOk, IfSome, IsSome, List, None, Ok, OnErr, OnOk, Option, Result, Some, [], ap, append-nil, arith, false}
pub use Rattle.std.proofs.Common.{if◌then◌else◌, inl, inr, length, min, nat_le, refl, subst, suc, sym, take, true, zero, ℕ, ◌++◌, ◌∙◌, ◌∷◌, ◌≡◌, ◌≢◌, ◌≤◌}
pub use Rattle.std.proofs.lemmas.Bool.{cases_lt}
pub use Rattle.std.proofs.lemmas.List.{take-append-le, take_min}
pub use Rattle.std.specs.Option.{option_map}
pub use Rattle.mic_base.specs.Prelude.{no_rise, plain_left}
pub use Rattle.console_port.specs.Prelude.{World}
pub use Rattle.mic_clock.specs.Prelude.{BoardView, IsLedTo, Meaning, MicroRun, bounded, bounded_by, turn}
pub use Rattle.mic_clock.specs.declared.end.End.{End}
pub use Rattle.mal_parser.specs.Prelude.{MalView}
pub use Rattle.mal_shipped.specs.declared.loaded.Loaded.{Loaded}
pub use Rattle.verifier_facts.specs.Prelude.{VerifiedView}
pub use Rattle.cli_outside.specs.Prelude.{GotInPart, OutsideView, TellsOnErr, files_of, outside_view, sink_of, source_of, source_state}
pub use Rattle.cli_session.specs.declared.lines.Step.{Step}
pub use Rattle.cli_session.specs.declared.reading.Command.{Command}
pub use Rattle.cli_session.specs.declared.reading.CommandError.{CommandError}
pub use Rattle.cli_session.specs.declared.reading.CommandError.TheVariants.{BadCommand, BadNumber}
pub use Rattle.mic_debugger.specs.declared.plan.Plan.{Plan}
pub use Rattle.mic_debugger.specs.declared.reply.Reply.{Reply}
pub use Rattle.mic_debugger.specs.declared.table.Verb.{Verb}
pub use Rattle.mic_debugger.specs.declared.until.Until.{Until}
