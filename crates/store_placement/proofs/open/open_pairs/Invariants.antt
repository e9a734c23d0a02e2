use Rattle.store_placement.proofs.Common.{◌≡◌, ◌≤◌, length, filter_map, below, opened_by}
use Rattle.store_placement.proofs.open.open_pairs.Given as goal

abbrev pub invariant-loop-s : goal.invariant-loop-s
invariant-loop-s l = (l.open.items ≡ filter_map (opened_by l.fixed l.pairs) (below l.s)) × (length l.open.items ≤ l.s)
