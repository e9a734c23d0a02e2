use Rattle.store_placement.proofs.Common.{◌≡◌, drop, pair_address}
use Rattle.store_placement.proofs.steps.pair_address.Given as goal

abbrev pub invariant-loop-k : goal.invariant-loop-k
invariant-loop-k l = pair_address (drop l.k l.pairs) (drop l.k l.lows) l.s ≡ pair_address l.pairs l.lows l.s
