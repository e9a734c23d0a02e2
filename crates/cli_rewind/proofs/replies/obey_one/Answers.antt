use Rattle.cli_rewind.proofs.Common.{◌^◌, refl, plain_left, sink_of}
use Rattle.cli_rewind.proofs.Composing.{went_still}
use Rattle.cli_rewind.proofs.replies.obey_one.Goals as goal

pub returns-in-Some-clause-went : goal.returns-in-Some-clause-went
returns-in-Some-clause-went g c = rw c.in-Some.is c.obey.ensures.went

pub returns-in-Some-clause-cut : goal.returns-in-Some-clause-cut
returns-in-Some-clause-cut g c = rw c.in-Some.is c.obey.ensures.cut

pub returns-in-None-clause-went : goal.returns-in-None-clause-went
returns-in-None-clause-went g c =
    let v = c.args.rewind.now in
    rw c.in-None.is
    (went_still {state = g.M.Clocked.state} {m = g.M.Clocked.meaning} (2 ^ 32) v v (plain_left c.args.input.now)
    (sink_of g.K.Sink.held g.K.Sink.passed g.K.Sink.faults c.args.out.now) refl refl c.requires.well
    (λ s here. (s, (refl, c.new.ensures), here)))
