use Rattle.store_placement.proofs.Common.{take, AreTaken}
use Rattle.store_placement.proofs.taken.taken_addresses.Given as goal

abbrev pub invariant-loop-place : goal.invariant-loop-place
invariant-loop-place l = AreTaken (take l.place-index l.placed) l.taken
