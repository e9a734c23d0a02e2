use Rattle.std.proofs.Common.{◌≡◌, ℕ, ◌+◌, ◌-◌, max, None, Some, is_some, if◌then◌else◌}
use Rattle.mic_clock.specs.declared.end.End.TheVariants as ends
use Rattle.mic_clock.specs.Prelude.{last_cycles, ShowsRun, IsLedTo, IsCutByRead, IsCutByWrite, Leads, NoFault, GoesOn, InTime}
use Rattle.mic_clock.proofs.board.Board.run.Given as goal

-- the turns so far lead here or are cut here, and the cycles stay within 1,024 of the last boundary
abbrev pub invariant-strides : goal.invariant-strides
invariant-strides g l =
    let state = g.M.Clocked.state in
    let m = g.M.Clocked.meaning in
    let left = g.S.Source.left l.source in
    let held = g.K.Sink.held l.sink in
    let words = l.fn.self.store.words in
    record {
      run : NoFault None l.self.end → IsLedTo state (g.S.Source.left l.fn.source) (g.K.Sink.held l.fn.sink) l.fn.self left l.self
          (λ r rest. (n : ℕ) × Leads state m words (Some l.bound) l.self l.fn.self.buses rest n r (ShowsRun state left held l.self));
      read : l.self.end ≡ Some ends.ReadFault → IsLedTo state (g.S.Source.left l.fn.source) (g.K.Sink.held l.fn.sink) l.fn.self left l.self
          (λ r rest. (n : ℕ) × Leads state m words (Some l.bound) l.self l.fn.self.buses rest n r (IsCutByRead state m words (Some l.bound) left held l.self));
      write : l.self.end ≡ Some ends.WriteFault → IsLedTo state (g.S.Source.left l.fn.source) (g.K.Sink.held l.fn.sink) l.fn.self left l.self
          (λ r rest. (n : ℕ) × Leads state m words (Some l.bound) l.self l.fn.self.buses rest n r (IsCutByWrite state m words (Some l.bound) left held l.self));
      goes_on : GoesOn g.S.Source.left g.S.Source.faults g.K.Sink.held g.K.Sink.passed g.K.Sink.faults l.fn.source l.fn.sink l.fn.self l.source l.sink l.self;
      in_time : InTime (max l.bound (last_cycles l.fn.self.counts.boundary)) l.self.counts (m.is_boundary (state l.self.machine)) l.self.end;
    }

abbrev pub decreases-strides : goal.decreases-strides
decreases-strides g l = if is_some l.self.end then 0 else max l.bound (last_cycles l.fn.self.counts.boundary) + 1025 - l.self.counts.cycles
