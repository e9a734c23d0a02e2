-- The words of other crates that these proofs use.
pub use Rattle.std.proofs.Common.{Bool, IsSome, List, None, Ok, Option, Result, Some, [], add-suc, add-zero, ap, append-nil, append_assoc, arith, eq-eqb, false}
pub use Rattle.std.proofs.Common.{if◌then◌else◌, inl, is_some, length, length-append, max, ne_eqb, refl, rules, subst, suc, sym, true, zero, zero-add, ℕ, ◌++◌}
pub use Rattle.std.proofs.Common.{◌+◌, ◌-◌, ◌∙◌, ◌∷◌, ◌≡◌, ◌≢◌, ◌≤◌}
pub use Rattle.std.proofs.lemmas.List.{nil_from_length}
pub use Rattle.std.proofs.lemmas.Result.{err_from_is_err_and}
pub use Rattle.mic_base.specs.Prelude.{HasCause, Puts, puts_nothing, puts_then}
pub use Rattle.mic_base.specs.declared.sink.SinkFailed.{SinkFailed}
pub use Rattle.mic_clock.specs.declared.counts.Boundary.{Boundary}
pub use Rattle.mic_clock.specs.declared.counts.Counts.{Counts}
pub use Rattle.mic_clock.specs.declared.end.End.{End}
pub use Rattle.mic_clock.specs.declared.registers.Registers.{Registers}
pub use Rattle.mic_watched.specs.Prelude.{IsWatched, LeadsOver, PrintsOf, Saw, ShowsCycles, boundary_at, boundary_in, boundary_of, cycle_between, cycle_on}
pub use Rattle.mic_watched.specs.Prelude.{cycles_of, kept_of, shown, shown_on, shown_where}
pub use Rattle.mic_watched.specs.declared.cycle.Cycle.{Cycle}
