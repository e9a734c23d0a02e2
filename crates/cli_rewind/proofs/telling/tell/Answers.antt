use Rattle.cli_rewind.proofs.Common.{inl, inr, sink_of, SinkState, in_part, on_err_of}
use Rattle.cli_rewind.proofs.Answering.{front_at, told_part, told_whole}
use Rattle.cli_rewind.proofs.telling.tell.Given.{Over}
use Rattle.cli_rewind.proofs.telling.tell.Goals as goal

abbrev out_sink : (g : Over) → g.row.K.Denot → SinkState
out_sink g k = sink_of g.K.Sink.held g.K.Sink.passed g.K.Sink.faults k

abbrev err_sink : (g : Over) → g.row.E.Denot → SinkState
err_sink g k = sink_of g.E.Sink.held g.E.Sink.passed g.E.Sink.faults k

pub returns-in_err-put-clause-err : goal.returns-in_err-put-clause-err
returns-in_err-put-clause-err g c =
    on_err_of _ c.from_residual.result
    (record {
      out_front = record {
        front = λ left s here. front_at g.M.Clocked.state g.M.Clocked.meaning left (g.K.Sink.held c.args.out.now) c.args.rewind.now s here;
        keeps = λ front h. h;
      };
      got = c.in_err-put.ensures.puts;
      keeps = c.put.ensures.keeps;
      rose = inr c.in_err-put.ensures.cause.failed;
    })

pub returns-in_err-pass_on-clause-err : goal.returns-in_err-pass_on-clause-err
returns-in_err-pass_on-clause-err g c =
    on_err_of _ c.from_residual-in_err-pass_on.result
    (record {
      out_front = c.in_err-pass_on.ensures.err;
      got = in_part (g.E.Sink.held c.args.err.now) (g.E.Sink.held c.put.new.self) c.args.answer.now c.in_ok-put.ensures.puts;
      keeps = c.put.ensures.keeps;
      rose = inl c.in_err-pass_on.ensures.rose;
    })

pub returns-clause-ok : goal.returns-clause-ok
returns-clause-ok g c =
    told_whole g.M.Clocked.state g.M.Clocked.meaning c.args.answer.now c.args.rewind.now c.pass_on.new.rewind (out_sink g c.args.out.now)
    (out_sink g c.pass_on.new.out)
    (err_sink g c.args.err.now) (err_sink g c.put.new.self) (err_sink g c.flush.new.self) c.in_ok-pass_on.ensures.ok c.in_ok-put.ensures.puts
    c.put.ensures.keeps
    c.in_ok-put.ensures.cause.quiet c.flush.ensures.held c.flush.result c.flush.ensures.passed c.flush.ensures.cause

pub returns-clause-err : goal.returns-clause-err
returns-clause-err g c =
    told_part g.M.Clocked.state g.M.Clocked.meaning c.args.answer.now c.args.rewind.now c.pass_on.new.rewind (out_sink g c.args.out.now)
    (out_sink g c.pass_on.new.out)
    (err_sink g c.args.err.now) (err_sink g c.put.new.self) (err_sink g c.flush.new.self) c.in_ok-pass_on.ensures.ok c.in_ok-put.ensures.puts
    c.put.ensures.keeps
    c.in_ok-put.ensures.cause.quiet c.flush.ensures.held c.flush.result c.flush.ensures.cause
