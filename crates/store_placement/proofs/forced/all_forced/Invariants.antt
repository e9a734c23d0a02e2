use Rattle.store_placement.proofs.Common.{◌≡◌, map, below, forced}
use Rattle.store_placement.proofs.forced.all_forced.Given as goal

abbrev pub invariant-loop-s : goal.invariant-loop-s
invariant-loop-s l = l.addresses.items ≡ map (forced l.fixed l.pairs) (below l.s)
