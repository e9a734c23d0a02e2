use Rattle.store_placement.specs.Prelude.{NeverWith, collide}
use Rattle.store_placement.proofs.collision.collides_with.Given as goal

abbrev pub invariant-loop-t : goal.invariant-loop-t
invariant-loop-t l = NeverWith (collide l.fixed l.pairs) l.t l.s
