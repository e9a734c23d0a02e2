use Rattle.std.proofs.Common.{arith}
use Rattle.store_placement.proofs.Marks.{marked_more, none_marked}
use Rattle.store_placement.proofs.taken.taken_addresses.Goals as goal

pub loop-place-init : goal.loop-place-init
loop-place-init c = none_marked

pub loop-place-preserved : goal.loop-place-preserved
loop-place-preserved c =
    let l = c.loop-place in
    marked_more c.args.placed.now l.place-index l.taken c.take_address.new.taken (omega arith) l.invariant c.take_address.ensures
