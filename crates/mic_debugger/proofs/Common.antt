-- The words of other crates that these proofs use.
pub use Rattle.arrayvec.proofs.ArrayVecLemmas.{filter-from_retain}
pub use Rattle.std.proofs.Common.{Bool, Err, IfErr, IsSome, List, None, Ok, OnErr, OnOk, Option, Result, Some, [], ap, append_assoc, arith, codes}
pub use Rattle.std.proofs.Common.{if◌then◌else◌, inl, inr, is_some, length, refl, rules, subst, suc, sym, zero, ℕ, ◌++◌, ◌+◌, ◌-◌, ◌<◌, ◌^◌, ◌∙◌, ◌≡◌, ◌≢◌, ◌⊎◌}
pub use Rattle.std.proofs.lemmas.List.{length-map}
pub use Rattle.std.proofs.lemmas.Result.{on_err_weaker, on_ok_weaker}
pub use Rattle.mic_base.specs.Prelude.{HasCause, KeepsFront, Puts, Rose, hex_text, puts_first, puts_nothing, puts_passed, puts_then}
pub use Rattle.micro_word.specs.Prelude.{ControlStore}
pub use Rattle.console_port.specs.Prelude.{Stands, Untaken}
pub use Rattle.console_port.specs.declared.fault.BusFault.{BusFault}
pub use Rattle.mic_clock.specs.Prelude.{BoardView, EndsUncounted, HasEndCause, InTime, IsCutByRead, IsLedTo, IsTurned, Leads, Meaning, MicroRun, NoFault}
pub use Rattle.mic_clock.specs.Prelude.{ShowsAs, ShowsRun, TurnIsCut, bounded, no_fault, turn, turns, turns-suc, turns-uncounted, word_at}
pub use Rattle.mic_clock.specs.declared.counts.Counts.{Counts}
pub use Rattle.mic_clock.specs.declared.end.End.{End}
pub use Rattle.mal_parser.specs.Prelude.{MalView}
pub use Rattle.ijvm_image.specs.Prelude.{ImageView}
pub use Rattle.verifier_facts.specs.Prelude.{Accepts, Code, Header, IsKind, first}
pub use Rattle.verifier_facts.specs.declared.error.VerifyError.TheVariants.{Overlap}
pub use Rattle.verifier_facts.specs.declared.kind.Kind.{Kind}
pub use Rattle.verifier_facts.specs.declared.kind.Kind.TheVariants.{Start}
pub use Rattle.cli_outside.specs.Prelude.{Got, GotInPart, SinkState, sink_of}
pub use Rattle.cli_session.specs.Prelude.{IsFrontOf, front_given, front_lost, in_part, on_err_of}
pub use Rattle.cli_session.specs.declared.reading.CommandError.{CommandError}
pub use Rattle.mic_debugger.specs.declared.plan.Plan.{Plan}
pub use Rattle.mic_debugger.specs.declared.plan.Shown.{Shown}
pub use Rattle.mic_debugger.specs.declared.table.Verb.{Verb}
pub use Rattle.mic_debugger.specs.declared.until.Until.{Until}
