use Rattle.std.proofs.Common.{◌≡◌, ◌-◌, None, if◌then◌else◌}
use Rattle.mic_clock.specs.Prelude.{IsRunInside, board_of, AreParts}
use Rattle.mic_clock.proofs.turning.turns_inside.Given as goal

-- turns that need neither a source nor a sink lead here
abbrev pub invariant-turns : goal.invariant-turns
invariant-turns g l =
    let state = g.M.Clocked.state in
    let m = g.M.Clocked.meaning in
    let first = board_of g.M.Clocked.seen l.fn.machine l.fn.store l.fn.bus l.fn.running l.fn.tally in
    let board = board_of g.M.Clocked.seen l.machine l.store l.bus l.here l.tally in
    record {
      parts : AreParts m l.store l.here l.tally;
      run : IsRunInside state m first board l.bound;
      running : board.end ≡ None;
    }

abbrev pub decreases-turns : goal.decreases-turns
decreases-turns g l = if l.goes_on then l.bound - l.here.cycles else 0
