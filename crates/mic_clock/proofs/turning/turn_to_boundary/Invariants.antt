use Rattle.std.proofs.Common.{◌≡◌, ◌||◌, ℕ, suc, ◌+◌, ◌-◌, None, Some, is_some, if◌then◌else◌}
use Rattle.mic_clock.specs.declared.end.End.TheVariants as ends
use Rattle.mic_clock.specs.Prelude.{IsLeg, ShowsRun, IsLedTo, IsCutByRead, IsCutByWrite, Leads, NoFault, GoesOn, InTime, board_of, AreParts}
use Rattle.mic_clock.proofs.InTime.{InLeg}
use Rattle.mic_clock.proofs.turning.turn_to_boundary.Given as goal

-- the turns so far lead here or are cut here, with no boundary and no end between them
abbrev pub invariant-inside : goal.invariant-inside
invariant-inside g l =
    let state = g.M.Clocked.state in
    let m = g.M.Clocked.meaning in
    let left = g.S.Source.left l.source in
    let held = g.K.Sink.held l.sink in
    let board = board_of g.M.Clocked.seen l.machine l.store l.bus l.here l.tally in
    let first = board_of g.M.Clocked.seen l.fn.machine l.fn.store l.fn.bus l.fn.running l.fn.tally in
    let words = first.store.words in
    record {
      parts : AreParts m l.store l.here l.tally;
      run : NoFault None board.end → IsLedTo state (g.S.Source.left l.fn.source) (g.K.Sink.held l.fn.sink) first left board
          (λ r rest. (n : ℕ) × IsLeg m words n r × Leads state m words None board first.buses rest n r (ShowsRun state left held board));
      read : board.end ≡ Some ends.ReadFault → IsLedTo state (g.S.Source.left l.fn.source) (g.K.Sink.held l.fn.sink) first left board
          (λ r rest. (n : ℕ) × IsLeg m words (suc n) r × Leads state m words None board first.buses rest n r (IsCutByRead state m words None left held board));
      write : board.end ≡ Some ends.WriteFault → IsLedTo state (g.S.Source.left l.fn.source) (g.K.Sink.held l.fn.sink) first left board
          (λ r rest. (n : ℕ) × IsLeg m words (suc n) r × Leads state m words None board first.buses rest n r (IsCutByWrite state m words None left held board));
      goes_on : GoesOn g.S.Source.left g.S.Source.faults g.K.Sink.held g.K.Sink.passed g.K.Sink.faults l.fn.source l.fn.sink first l.source l.sink board;
      in_leg : InLeg first.counts board.counts (m.is_boundary (state board.machine)) board.end;
      in_time : InTime first.counts.cycles board.counts (m.is_boundary (state board.machine)) board.end;
    }

abbrev pub decreases-inside : goal.decreases-inside
decreases-inside g l =
    if is_some l.here.end || g.M.Clocked.meaning.is_boundary (g.M.Clocked.state l.machine) then 0 else l.fn.running.cycles + 1 + 1025 - l.here.cycles
