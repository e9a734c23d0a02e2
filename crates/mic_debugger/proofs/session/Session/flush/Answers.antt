use Rattle.mic_debugger.proofs.Breaking.{front_flushed}
use Rattle.mic_debugger.proofs.session.Session.flush.Goals as goal

pub returns-then-is_err-clause-front : goal.returns-then-is_err-clause-front
returns-then-is_err-clause-front g c =
    rw (← c.self.view_is)
    (front_flushed g.M.Clocked.state (g.K.Sink.held c.args.out.now) (g.K.Sink.held c.flush.new.sink) c.self.inside.board c.flush.new.self c.flush.result
    c.flush.ensures.ok c.flush.ensures.err c.flush.ensures.fault)
