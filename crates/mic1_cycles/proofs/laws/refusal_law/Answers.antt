use Rattle.mic1_cycles.proofs.Refusals.{refusals}
use Rattle.mic1_cycles.proofs.laws.refusal_law.Goals as goal

pub returns : goal.returns
returns c = refusals
