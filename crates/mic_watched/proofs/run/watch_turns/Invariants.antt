use Rattle.mic_watched.proofs.Common.{◌+◌, ◌-◌, max, is_some, if◌then◌else◌, Ok, HasCause, SinkFailed, IsWatched}
use Rattle.mic_clock.specs.Prelude.{last_cycles, GoesOn, InTime}
use Rattle.mic_watched.proofs.run.watch_turns.Given as goal

-- the cycles so far were seen, and the cycles stay within 1,024 of the last boundary
abbrev pub invariant-turns : goal.invariant-turns
invariant-turns g l =
    let state = g.M.Clocked.state in
    let m = g.M.Clocked.meaning in
    record {
      watched : IsWatched state m l.bound g.W.Watcher.keeps g.W.Watcher.Prints {E = SinkFailed} (g.S.Source.left l.fn.source) (g.K.Sink.held l.fn.sink) l.fn.board
          (g.S.Source.left l.source) (g.K.Sink.held l.sink) l.board (g.W.Watcher.kept l.fn.watcher) (g.W.Watcher.kept l.watcher) (g.E.Sink.held l.fn.err) (g.E.Sink.held l.err) l.board.end (Ok (tt {0}));
      goes_on : GoesOn g.S.Source.left g.S.Source.faults g.K.Sink.held g.K.Sink.passed g.K.Sink.faults l.fn.source l.fn.sink l.fn.board l.source l.sink l.board;
      said : HasCause {E = SinkFailed} (g.E.Sink.faults l.fn.err) (g.E.Sink.faults l.err) (Ok (tt {0}));
      in_time : InTime (max l.bound (last_cycles l.fn.board.counts.boundary)) l.board.counts (m.is_boundary (state l.board.machine)) l.board.end;
    }

abbrev pub decreases-turns : goal.decreases-turns
decreases-turns g l = if is_some l.board.end then 0 else max l.bound (last_cycles l.fn.board.counts.boundary) + 1025 - l.board.counts.cycles
