use Rattle.store_placement.proofs.Common.{◌≡◌, ◌+◌, ◌≤◌, drop, distinct_count, same_pair}
use Rattle.store_placement.proofs.constraints.different_pairs.Given as goal

abbrev pub invariant-loop-k : goal.invariant-loop-k
invariant-loop-k l = (l.count + distinct_count same_pair (drop l.k l.pairs) ≡ distinct_count same_pair l.pairs) × (l.count ≤ l.k)
