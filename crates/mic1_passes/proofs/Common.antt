-- The words of other crates that these proofs use.
pub use Rattle.std.proofs.Common.{Bool, Err, IsTrue, List, None, Ok, Option, Result, Some, ap, arith, false, not, refl, slice_index, subst, suc, sym, true, ℕ}
pub use Rattle.std.proofs.Common.{◌+◌, ◌==◌, ◌||◌, ◌∙◌, ◌≡◌, ◌≢◌}
pub use Rattle.std.specs.declared.alloc.AllocError.{AllocError}
pub use Rattle.mic_words.specs.declared.machine.Machine.TheVariants.{Mic1}
pub use Rattle.micro_word.specs.Prelude.{is_valid, microword_of}
pub use Rattle.micro_word.specs.declared.statement.Placed.{Placed}
pub use Rattle.mic1_datapath.specs.Prelude.{Micro, StepsAsSpelled, mic1_meaning}
unfoldable pub use Rattle.mic1_datapath.specs.Prelude.{driven}
pub use Rattle.ijvm_simulation.specs.Prelude.{Moment, is_inside, last, onward, outcome_at, pass, stalls_at}
pub use Rattle.micro_terms.specs.Prelude.{Environment, Fits, Grows, Holds}
pub use Rattle.mic1_cycles.specs.Prelude.{IsPath, Knows, LeadsOn, MeetsRefusal, refusal_of}
pub use Rattle.mic1_cycles.specs.declared.path.Path.{Path}
pub use Rattle.mic1_cycles.specs.declared.refusal.Stop.{Stop}
pub use Rattle.mic1_cycles.specs.declared.refusal.Stop.TheVariants.{Limit, OutOfMap}
pub use Rattle.mic1_passes.specs.Prelude.{StopsAt, moment}
pub use Rattle.mic1_passes.specs.declared.run.Followed.{Followed}
pub use Rattle.mic1_passes.specs.declared.run.Followed.TheVariants.{Boundary, End, Unknown}
