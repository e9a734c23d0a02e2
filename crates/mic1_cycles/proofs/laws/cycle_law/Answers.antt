use Rattle.mic1_cycles.proofs.Cycles.{cycle}
use Rattle.mic1_cycles.proofs.laws.cycle_law.Goals as goal

pub returns : goal.returns
returns c = cycle
