-- What the last flush of an ended run leaves.
use Rattle.mic_clock.proofs.Common.{Result, Err, IsOk, OnOk, IfErr, ◌≡◌, inl, inr, ℕ, List, [], Option, Some, None, IsSome, sym, ◌∙◌, ap, subst, HasFaultCause}
use Rattle.mic_clock.proofs.Common.{SinkGoesOn, BusFault, End}
use Rattle.console_port.specs.declared.fault.BusFault.TheVariants as faults
use Rattle.mic_clock.specs.declared.end.End.TheVariants as ends
use Rattle.mic_clock.specs.Prelude.{BoardView, HasEndCause, GoesOn, IsOnlyFlushed, cause-flushed, cause-lost, goes-flushed}
use Rattle.mic_clock.proofs.Reach.{by_done, no_err, fault_cases}

pub GoesOn-finish : (A : Type 0) {S K M : Type 0} (left : S → Option (List ℕ)) (source_faults : S → ℕ) (held passed : K → Option (List ℕ)) (sink_faults : K → ℕ)
    (source0 : S) (sink0 : K) (board0 : BoardView M) (source : S) (sink : K) (board : BoardView M) (sink' : K) (board' : BoardView M) →
    board0.end ≡ None → IsSome board.end → GoesOn left source_faults held passed sink_faults source0 sink0 board0 source sink board →
    IsOnlyFlushed board board' → board'.bus.console.kept ≡ [] → (result : Result Unit BusFault) →
    OnOk result ((board'.end ≡ board.end) × A) → IfErr result (λ e. (e ≡ faults.WriteFault) × (board'.end ≡ Some ends.WriteFault)) →
    (board.bus.console.kept ≡ [] → IsOk result × (board' ≡ board) × (sink' ≡ sink)) →
    SinkGoesOn held passed (result ≡ Err faults.WriteFault) sink sink' → HasFaultCause 0 0 (sink_faults sink) (sink_faults sink') result →
    GoesOn left source_faults held passed sink_faults source0 sink0 board0 source sink' board'
GoesOn-finish A left source_faults held passed sink_faults source0 sink0 board0 source sink board sink' board' none over first only kept result ok err empty goes cause =
    goes-flushed none first board' board'.end (ap (λ (x : BoardView _). x.store) only.same) only.input kept goes
    (λ q. by_done result ok err (λ x is done. (λ w. q (done.0 ∙ w), λ w. cc)) (λ e is failed. absurd (q failed.1)))
    (by_done result ok err
    (λ x is done. cause-flushed _ _ _ _ _ _ board.end board'.end (cause.sink_same (λ w. cc)) (sym done.0) first.cause)
    (λ e is failed.
    let some : board.bus.console.kept ≡ [] → ⊥ = λ q. no_err result e is (empty q).0 in
    let rose = cause.write (subst (λ (x : BusFault). result ≡ Err x) failed.0 is) in
    subst (λ (x : Option End). HasEndCause (source_faults source0) (source_faults source) (sink_faults sink0) (sink_faults sink') board0.end x) (sym failed.1)
    (elim (fault_cases board.end) [
      | inl plain ↦ cause-lost _ _ _ _ _ board0.end board.end none plain first.cause rose cause.sink_later
      | inr fault ↦ elim fault [
        | inl read ↦ absurd (some (first.kept faults.ReadFault none tt read))
        | inr write ↦ absurd (some (first.kept faults.WriteFault none tt write))
      ]
    ])))
