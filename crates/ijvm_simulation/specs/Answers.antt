-- What a call that runs a verified image on a machine returns, over a source and a sink: the board that is left
-- shows the run to its end, or to where a fault cut it.
use Rattle.std.specs.Prelude.{◌≡◌, ℕ, List, Option, Some, None, Result, IfOk}
use Rattle.mic_clock.specs.declared.end.End.TheVariants as ends
use Rattle.ijvm_simulation.specs.Common.{NoFault, HasEndCause, BoardView, VerifiedView}
use Rattle.ijvm_simulation.specs.Interpretation.{Interpretation}
use Rattle.ijvm_simulation.specs.Headline.{HasRun, IsCutByRead, IsCutByWrite}

module _ {M T : Type 0} (i : Interpretation M T) (v : VerifiedView) (bound : ℕ) {S K E : Type 0} (left : S → Option (List ℕ)) (held : K → Option (List ℕ))
    (source : S) (sink : K) (source' : S) (sink' : K) (result : Result (BoardView M) E) where
  -- with no fault the run has ended as the definition's
  abbrev pub RunsAsDefined : Type 0
  RunsAsDefined =
      IfOk result (λ board. NoFault None board.end →
      HasRun i.state i.meaning i.IsReady i.IsShipped i.entry i.timing v bound (left source) (held sink) (left source') (held sink') board)

  -- where the source failed, the run was cut before a read of the console
  abbrev pub IsCutWhereReadFails : Type 0
  IsCutWhereReadFails =
      IfOk result (λ board. board.end ≡ Some ends.ReadFault →
      IsCutByRead i.state i.meaning i.IsReady i.IsShipped i.entry i.timing v bound (left source) (held sink) (left source') (held sink') board)

  -- where the sink failed, the run was cut before an access of the console, or at its end
  abbrev pub IsCutWhereWriteFails : Type 0
  IsCutWhereWriteFails =
      IfOk result (λ board. board.end ≡ Some ends.WriteFault →
      IsCutByWrite i.state i.meaning i.IsReady i.IsShipped i.entry i.timing v bound (left source) (held sink) (left source') (held sink') board)

-- the board ends by a fault only where a count rose, and each count stays otherwise
abbrev pub EndsByCause : {M S K E : Type 0} → (S → ℕ) → (K → ℕ) → S → K → S → K → Result (BoardView M) E → Type 0
EndsByCause source_faults sink_faults source sink source' sink' result =
    IfOk result (λ board. HasEndCause (source_faults source) (source_faults source') (sink_faults sink) (sink_faults sink') None board.end)
