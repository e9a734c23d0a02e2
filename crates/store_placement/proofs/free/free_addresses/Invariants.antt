use Rattle.store_placement.proofs.Common.{◌≡◌, ◌≤◌, filter, length, below, is_free}
use Rattle.store_placement.proofs.free.free_addresses.Given as goal

abbrev pub invariant-loop-a : goal.invariant-loop-a
invariant-loop-a l = (l.free.items ≡ filter (is_free l.placed) (below l.a)) × (length l.free.items ≤ l.a)
