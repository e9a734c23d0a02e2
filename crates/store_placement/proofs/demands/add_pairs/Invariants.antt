use Rattle.store_placement.proofs.Common.{◌≡◌, ◌≤◌, length, take, filter_map, statement_pair}
use Rattle.store_placement.proofs.demands.add_pairs.Given as goal

abbrev pub invariant-loop-s : goal.invariant-loop-s
invariant-loop-s l =
    (l.constraints.pairs ≡ filter_map statement_pair (take l.s l.program.statements))
    × (l.constraints.fixed ≡ l.initial.constraints.fixed)
    × (length l.constraints.pairs ≤ l.s)
