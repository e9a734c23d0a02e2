use Rattle.ijvm_verifier.proofs.Common.{◌≤◌, IsCounted}
use Rattle.ijvm_verifier.proofs.count.count_locals.Given as goal

abbrev pub invariant-loop-at : goal.invariant-loop-at
invariant-loop-at l = record { counted : IsCounted l.image l.at l.count; small : l.count ≤ 65536 }
