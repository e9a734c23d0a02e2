use Rattle.store_placement.proofs.Common.{◌≡◌, None, map, slice_index_or, option_or, below, pair_address}
use Rattle.store_placement.proofs.steps.with_pairs.Given as goal

abbrev pub invariant-loop-s : goal.invariant-loop-s
invariant-loop-s l =
    l.placed.items ≡ map (λ s. option_or (slice_index_or l.forced s None) (pair_address l.pairs l.lows s)) (below l.s)
