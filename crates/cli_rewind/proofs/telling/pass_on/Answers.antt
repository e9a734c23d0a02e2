use Rattle.cli_rewind.proofs.Common.{ap, RewindView}
use Rattle.cli_rewind.proofs.Answering.{lost_at, passes}
use Rattle.cli_rewind.proofs.telling.pass_on.Goals as goal

pub returns-in-Err-clause-err : goal.returns-in-Err-clause-err
returns-in-Err-clause-err g c =
    let v = c.args.rewind.now in
    let v' = c.flush.new.self in
    let failed = c.in-Err.ensures in
    record {
      front = λ left s here.
          lost_at g.M.Clocked.state g.M.Clocked.meaning left (g.K.Sink.held c.args.out.now) v s here (g.K.Sink.held c.flush.new.sink) v'.board.bus.console.kept
          ((failed.err left).lost failed.fault);
      keeps = c.flush.ensures.sink.keeps;
    }

pub returns-in-Ok-clause-ok : goal.returns-in-Ok-clause-ok
returns-in-Ok-clause-ok g c =
    let done = c.in-Ok.ensures in
    let history = ap (λ (v : RewindView g.row.M.Denot). v.history) done.same.0 in
    let board = ap (λ (v : RewindView g.row.M.Denot). v.board) done.same.0 in
    record {
      shows = passes g.M.Clocked.state g.M.Clocked.meaning c.args.rewind.now c.flush.new.self (g.K.Sink.held c.args.out.now)
          (g.K.Sink.held c.flush.new.sink) history board done.ok;
      history = history;
      board = board;
      kept = done.kept;
      flushed = done.sink.flushed (λ e. cc);
      faults = done.cause.sink_same (λ e. cc);
      keeps = done.sink.keeps;
    }
