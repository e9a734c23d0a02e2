use Rattle.cli_rewind.proofs.Common.{◌^◌, refl, plain_left, sink_of}
use Rattle.cli_rewind.proofs.Composing.{went_still}
use Rattle.cli_rewind.proofs.replies.follow.Goals as goal

pub returns-in-Ok-clause-went : goal.returns-in-Ok-clause-went
returns-in-Ok-clause-went g c = rw c.in-Ok.is c.obey_one.ensures.went

pub returns-in-Ok-clause-cut : goal.returns-in-Ok-clause-cut
returns-in-Ok-clause-cut g c = rw c.in-Ok.is c.obey_one.ensures.cut

pub returns-in-Err-clause-went : goal.returns-in-Err-clause-went
returns-in-Err-clause-went g c =
    let v = c.args.rewind.now in
    rw c.in-Err.is
    (went_still {state = g.M.Clocked.state} {m = g.M.Clocked.meaning} (2 ^ 32) v v (plain_left c.args.input.now)
    (sink_of g.K.Sink.held g.K.Sink.passed g.K.Sink.faults c.args.out.now) refl refl c.requires.well
    (λ s here. (s, (refl, c.refusal_text.ensures), here)))
