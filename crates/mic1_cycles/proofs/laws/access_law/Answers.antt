use Rattle.mic1_cycles.proofs.Accesses.{access}
use Rattle.mic1_cycles.proofs.laws.access_law.Goals as goal

pub returns : goal.returns
returns c = access
