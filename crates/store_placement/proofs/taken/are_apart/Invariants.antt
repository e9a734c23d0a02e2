use Rattle.store_placement.proofs.Common.{take, NeverTwo, AreTaken, share_address}
use Rattle.store_placement.proofs.taken.are_apart.Given as goal

abbrev pub invariant-loop-address : goal.invariant-loop-address
invariant-loop-address l = AreTaken (take l.address-index l.addresses) l.taken × NeverTwo (share_address l.addresses) l.address-index
