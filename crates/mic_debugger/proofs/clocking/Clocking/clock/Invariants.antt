use Rattle.mic_debugger.proofs.Common.{◌≡◌, ℕ, ◌+◌, ◌-◌, ◌^◌, None, is_some, if◌then◌else◌, InTime}
use Rattle.mic_debugger.specs.declared.plan.Plan.TheVariants as plans
use Rattle.mic_debugger.specs.Prelude.{StopsTo, session_at, GoesThrough, KeepFronts, streams, HasReadCause, IsUnderway}
use Rattle.mic_debugger.proofs.clocking.Clocking.clock.Given as goal

-- the turns so far lead here, or are stopped here
abbrev pub invariant-turns : goal.invariant-turns
invariant-turns g l =
    let state = g.M.Clocked.state in
    let m = g.M.Clocked.meaning in
    let left = g.S.Source.left l.input in
    let held = g.K.Sink.held l.out in
    let words = l.fn.board.store.words in
    let at = streams g.S.Source.left g.S.Source.faults l.fn.input g.K.Sink.held g.K.Sink.passed g.K.Sink.faults l.fn.out g.E.Sink.held g.E.Sink.passed g.E.Sink.faults l.fn.err in
    let at' = streams g.S.Source.left g.S.Source.faults l.input g.K.Sink.held g.K.Sink.passed g.K.Sink.faults l.out g.E.Sink.held g.E.Sink.passed g.E.Sink.faults l.err in
    record {
      through : GoesThrough state l.self.listing.now at at' l.fn.board l.board
          (λ book text r rest. (n : ℕ) × IsUnderway state m book words l.self.breaks.now l.self.bound l.self.until l.times left held l.board rest text l.left n r)
          (StopsTo state m (session_at l.fn.board l.self.listing.now l.self.bound l.self.breaks.now None) l.board at at' (plans.Clock l.self.until l.times));
      input : HasReadCause (g.S.Source.faults l.fn.input) (g.S.Source.faults l.input) l.board.end;
      store : l.board.store ≡ l.fn.board.store;
      keeps : KeepFronts (g.K.Sink.held l.fn.out) held (g.E.Sink.held l.fn.err) (g.E.Sink.held l.err);
      in_time : InTime (2 ^ 62) l.board.counts (m.is_boundary (state l.board.machine)) l.board.end;
    }

abbrev pub decreases-turns : goal.decreases-turns
decreases-turns g l = if is_some l.board.end then 0 else 2 ^ 62 + 1025 - l.board.counts.cycles
