use Rattle.ijvm_simulation.proofs.Counted.{passed, counted}
use Rattle.ijvm_simulation.proofs.laws.counted_boundaries_are_passed.Goals as goal

pub returns : goal.returns
returns c = record { passed = λ p bound from at h. passed p bound h.0 from at h.1; counted = counted }
