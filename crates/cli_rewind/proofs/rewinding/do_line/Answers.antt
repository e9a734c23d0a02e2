use Rattle.cli_rewind.proofs.Common.{None, plain_left, files_state, sink_of, SinkState, source_state, on_err_of}
use Rattle.cli_rewind.proofs.Answering.{cut_short, gone, lasts, told_short}
use Rattle.cli_rewind.proofs.rewinding.do_line.Given.{Over}
use Rattle.cli_rewind.proofs.rewinding.do_line.Goals as goal

abbrev out_sink : (g : Over) → g.row.K.Denot → SinkState
out_sink g k = sink_of g.K.Sink.held g.K.Sink.passed g.K.Sink.faults k

abbrev err_sink : (g : Over) → g.row.E.Denot → SinkState
err_sink g k = sink_of g.E.Sink.held g.E.Sink.passed g.E.Sink.faults k

pub returns-in_err-answer-clause-broken : goal.returns-in_err-answer-clause-broken
returns-in_err-answer-clause-broken g c =
    on_err_of _ c.from_residual.result
    (λ files console.
    cut_short g.M.Clocked.state g.M.Clocked.meaning c.args.line.now c.args.words c.read_command-read.result c.read_command-read.ensures files console
    c.args.rewind.now c.follow.new.rewind (plain_left c.args.input.now) (plain_left c.follow.new.input) (out_sink g c.args.out.now)
    (out_sink g c.follow.new.out)
    (err_sink g c.args.err.now) (err_sink g c.args.err.now) c.in_err-answer.ensures.cut)

pub returns-in_err-tell-clause-broken : goal.returns-in_err-tell-clause-broken
returns-in_err-tell-clause-broken g c =
    on_err_of _ c.from_residual-in_err-tell.result
    (λ files console.
    told_short g.M.Clocked.state g.M.Clocked.meaning c.args.line.now c.args.words c.read_command-read.result c.read_command-read.ensures files console
    c.args.rewind.now c.follow.new.rewind c.tell.new.rewind (plain_left c.args.input.now) (plain_left c.follow.new.input)
    (out_sink g c.args.out.now) (out_sink g c.follow.new.out) (out_sink g c.tell.new.out) (err_sink g c.args.err.now) (err_sink g c.tell.new.err)
    c.in_ok-answer.answer c.in_ok-answer.ensures.went (rw c.bytes.ensures.value at c.in_err-tell.ensures.err))

pub returns-clause-lasts : goal.returns-clause-lasts
returns-clause-lasts g c =
    lasts g.M.Clocked.state g.M.Clocked.meaning c.args.line.now c.args.words c.read_command-read.result c.read_command-read.ensures (files_state None 0)
    (source_state None 0)
    c.args.rewind.now c.follow.new.rewind c.tell.new.rewind (plain_left c.args.input.now) (plain_left c.follow.new.input)
    (out_sink g c.args.out.now) (out_sink g c.follow.new.out) (out_sink g c.tell.new.out) (err_sink g c.args.err.now) (err_sink g c.tell.new.err)
    c.in_ok-answer.answer c.in_ok-answer.ensures.went (rw c.bytes.ensures.value at c.in_ok-tell.ensures.ok)

pub returns-clause-done : goal.returns-clause-done
returns-clause-done g c =
    λ files console.
    gone g.M.Clocked.state g.M.Clocked.meaning c.args.line.now c.args.words c.read_command-read.result c.read_command-read.ensures files console
    c.args.rewind.now c.follow.new.rewind c.tell.new.rewind (plain_left c.args.input.now) (plain_left c.follow.new.input)
    (out_sink g c.args.out.now) (out_sink g c.follow.new.out) (out_sink g c.tell.new.out) (err_sink g c.args.err.now) (err_sink g c.tell.new.err)
    c.in_ok-answer.answer c.in_ok-answer.ensures.went (rw c.bytes.ensures.value at c.in_ok-tell.ensures.ok)
