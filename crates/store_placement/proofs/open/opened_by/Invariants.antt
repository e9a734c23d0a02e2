use Rattle.store_placement.proofs.Common.{◌≡◌, drop, opened_by}
use Rattle.store_placement.proofs.open.opened_by.Given as goal

abbrev pub invariant-loop-pair : goal.invariant-loop-pair
invariant-loop-pair l = opened_by l.fixed (drop l.pair-index l.pairs) l.s ≡ opened_by l.fixed l.pairs l.s
