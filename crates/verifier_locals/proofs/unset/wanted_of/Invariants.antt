use Rattle.verifier_locals.proofs.Common.{◌≤◌, length, AreWanted}
use Rattle.verifier_locals.proofs.unset.wanted_of.Given as goal

abbrev pub invariant-loop-at : goal.invariant-loop-at
invariant-loop-at l = record { wanted : AreWanted l.image l.seen l.graph l.at l.wanted.items; few : length l.wanted.items ≤ l.at }
