-- A board at its reset can be run, and what a run leaves of the console and of `out`.
use Rattle.cli_clocked.proofs.Common.{◌≡◌, ◌≢◌, ◌∙◌, ◌≤◌, ◌+◌, ◌^◌, ℕ, List, Option, Some, None, sym, ap, subst, arith, unwrap_or, StaysFlushed, Counts, End}
use Rattle.cli_clocked.proofs.Common.{Meaning, last_cycles, BoardView, GoesOn, HasEndCause, CanRun, VerifiedView, IsAtReset}
use Rattle.mic_clock.specs.declared.end.End.TheVariants as ends

-- a board can be run from its reset
pub can_run : {M State : Type 0} (state : M → State) (m : Meaning State) (entry : ℕ) (program : VerifiedView) (board : BoardView M) → IsAtReset state m entry program board → CanRun board
can_run state m entry program board reset =
    let P : Counts → Type 0 = λ c. (c.cycles ≤ 2 ^ 62 + 1024) × (last_cycles c.boundary ≤ c.cycles) × (c.cycles ≤ last_cycles c.boundary + 1024) in
    let few : P board.counts = subst P (sym reset.counts) (omega arith, omega arith, omega arith) in
    record { not_ended = reset.end; cycles = few.0; ordered = few.1; near = few.2 }

module _ {S K M : Type 0} {left : S → Option (List ℕ)} {source_faults : S → ℕ} {held passed : K → Option (List ℕ)} {sink_faults : K → ℕ}
    {source source' : S} {sink sink' : K} {board board' : BoardView M} (goes : GoesOn left source_faults held passed sink_faults source sink board source' sink' board') where
  -- why it failed, where it did
  pub cause_of : board.end ≡ None → HasEndCause (source_faults source) (source_faults source') (sink_faults sink) (sink_faults sink') None board'.end
  cause_of running = subst (λ (e : Option End). HasEndCause (source_faults source) (source_faults source') (sink_faults sink) (sink_faults sink') e board'.end) running goes.cause

  -- where `out` did not fail, it has passed on all
  pub flushed_of : (end : End) → board'.end ≡ Some end → end ≢ ends.WriteFault → StaysFlushed (held sink) (passed sink) (held sink') (passed sink')
  flushed_of end is other = goes.sink_goes_on.flushed (λ failed. other (ap (λ (e : Option End). unwrap_or e end) (sym is ∙ failed)))
