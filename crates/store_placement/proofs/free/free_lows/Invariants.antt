use Rattle.store_placement.proofs.Common.{◌≡◌, ◌≤◌, filter, length, below, is_free_low}
use Rattle.store_placement.proofs.free.free_lows.Given as goal

abbrev pub invariant-loop-a : goal.invariant-loop-a
invariant-loop-a l =
    (l.lows.items ≡ filter (is_free_low l.placed) (below l.a)) × (length l.lows.items ≤ l.a)
