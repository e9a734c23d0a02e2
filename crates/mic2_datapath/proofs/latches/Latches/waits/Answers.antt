use Rattle.std.proofs.Common.{nat_lt}
use Rattle.mic2_datapath.proofs.latches.Latches.waits.Goals as goal

pub returns-clause-stalled : goal.returns-clause-stalled
returns-clause-stalled c = λ i. nat_lt (c.have.ensures.value i) (c.requires.demands i)
