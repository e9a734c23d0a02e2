use Rattle.std.proofs.Common.{arith}
use Rattle.store_placement.proofs.Marks.{apart_more, marked_more, none_marked}
use Rattle.store_placement.proofs.taken.are_apart.Goals as goal

pub loop-address-init : goal.loop-address-init
loop-address-init c = (none_marked, λ s t ordered below. absurd (omega arith))

pub loop-address-preserved : goal.loop-address-preserved
loop-address-preserved c =
    let placed = c.args.addresses.now in
    let l = c.loop-address in (
      marked_more placed l.address-index l.taken c.take_address.new.taken (omega arith) l.invariant.0 c.take_address.ensures,
      apart_more placed l.address-index l.taken (omega arith) l.invariant.0 (cc) l.invariant.1,
    )
