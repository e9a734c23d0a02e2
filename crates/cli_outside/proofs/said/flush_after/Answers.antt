use Rattle.mic_base.specs.Prelude.{puts_passed}
use Rattle.cli_outside.proofs.said.flush_after.Goals as goal

pub returns-clause-puts : goal.returns-clause-puts
returns-clause-puts g c = λ old text h.
    puts_passed old (g.E.Sink.held c.args.err.now) (g.E.Sink.held c.flush.new.self) text c.flush.result (rw c.in_ok-said.was at h) c.flush.ensures.held
