use Rattle.cli_rewind.proofs.Common.{None, plain_left, sink_of, GoesForward, scene, Went}
use Rattle.cli_rewind.proofs.moves.go_forward.Given as goal

-- this many cycles were made, and none was an end
abbrev pub invariant-cycles : goal.invariant-cycles
invariant-cycles g l =
    Went g.M.Clocked.state g.M.Clocked.meaning l._made
    (scene l.fn.rewind (plain_left l.fn.input) (sink_of g.K.Sink.held g.K.Sink.passed g.K.Sink.faults l.fn.out))
    (scene l.rewind (plain_left l.input) (sink_of g.K.Sink.held g.K.Sink.passed g.K.Sink.faults l.out))
    (GoesForward g.M.Clocked.meaning l.fn.rewind.board.store.words l._made None)
