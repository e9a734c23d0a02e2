use Rattle.ijvm_verifier.specs.Prelude.{AreMethodsBelow}
use Rattle.ijvm_verifier.proofs.sweep.count_methods.Given as goal

abbrev pub invariant-loop-at : goal.invariant-loop-at
invariant-loop-at l = AreMethodsBelow l.image l.at l.count
