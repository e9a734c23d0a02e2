use Rattle.store_placement.proofs.Marks.{none_collide}
use Rattle.store_placement.proofs.collision.first_collision.Goals as goal

pub returns-then-not-has_split : goal.returns-then-not-has_split
returns-then-not-has_split c = none_collide c.args.fixed.now c.args.pairs.now c.args.addresses.now c.requires.forced (c.are_apart.ensures (cc)) (cc)
