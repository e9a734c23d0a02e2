use Rattle.std.proofs.Common.{false, ap}
use Rattle.mic3_datapath.specs.Prelude.{buses_before}
use Rattle.mic3_datapath.proofs.mic3.Mic3Clocked.reset.Goals as goal

pub returns-clause-seen : goal.returns-clause-seen
returns-clause-seen c = ap (buses_before false 0) c.initial-self.ensures.pipeline
