-- The words of other crates that these proofs use.
pub use Rattle.std.proofs.Common.{List, Ok, Option, Result, ap, inl, inr, refl, subst, sym, ℕ, ◌≡◌}
pub use Rattle.micro_word.specs.Prelude.{ControlStore}
pub use Rattle.console_port.specs.Prelude.{World}
pub use Rattle.mic_clock.specs.Prelude.{BoardView}
pub use Rattle.mic1_datapath.specs.Prelude.{IsReady, Micro, mic1_meaning}
pub use Rattle.mic1_datapath.specs.declared.mic1.Mic1.{Mic1}
pub use Rattle.mal_shipped.specs.Prelude.{HasShipped}
pub use Rattle.ijvm_instr.specs.declared.instr.Instr.{Instr}
pub use Rattle.ijvm_instr.specs.declared.instr.Instr.TheVariants.{Err, Halt}
pub use Rattle.ijvm_meaning.specs.Prelude.{State, Timing, cost, start_of, timing_of}
pub use Rattle.verifier_facts.specs.Prelude.{VerifiedView}
pub use Rattle.ijvm_simulation.specs.Prelude.{Boots, Fine, Interprets, IsAt, IsCutWhereReadFails, IsCutWhereWriteFails, IsNext, Law, Loads, Moment, Moves}
pub use Rattle.ijvm_simulation.specs.Prelude.{Origin, Overran, Overruns, Promises, RunsAsDefined, ShowsState, Stops, StopsAfter, Takes, Went, reset_moment}
pub use Rattle.mic1_checks.specs.Prelude.{CarriesAll, HasWords, IsReadyOrArriving, MovesOn, StandsBefore, timing_by}
pub use Rattle.mic1_checks.specs.declared.judged.Costs.{Costs}
pub use Rattle.mic1_checker.specs.Prelude.{IsReadyInWords, checked_with, reading}
