use Rattle.std.proofs.lemmas.Result.{err_from_is_err_and}
use Rattle.mic_base.specs.Prelude.{puts_first, puts_then}
use Rattle.cli_outside.proofs.said.put_after.Goals as goal

pub returns-clause-puts : goal.returns-clause-puts
returns-clause-puts g c = λ old text h.
    puts_then old (g.E.Sink.held c.args.err.now) (g.E.Sink.held c.put.new.self) text c.args.piece.now c.put.result (rw c.in_ok-said.was at h) c.put.ensures.puts

pub returns-in_err-said-clause-puts : goal.returns-in_err-said-clause-puts
returns-in_err-said-clause-puts g c = λ old text h.
    let p = err_from_is_err_and c.from_residual.result c.from_residual.ensures.1 in
    rw p.1 (puts_first old (g.E.Sink.held c.args.err.now) text c.args.piece.now p.0 (rw c.in_err-said.was at h))
