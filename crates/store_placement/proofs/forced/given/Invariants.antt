use Rattle.store_placement.proofs.Common.{◌≡◌, drop, given}
use Rattle.store_placement.proofs.forced.given.Given as goal

abbrev pub invariant-loop-pair : goal.invariant-loop-pair
invariant-loop-pair l = given l.fixed l.s (drop l.pair-index l.pairs) ≡ given l.fixed l.s l.pairs
