use Rattle.store_placement.proofs.Common.{ℕ, ◌<◌, length, NeverWith, collide}
use Rattle.store_placement.proofs.collision.first_collision.Given as goal

abbrev pub invariant-loop-s : goal.invariant-loop-s
invariant-loop-s l = (u : ℕ) → u < l.s → NeverWith (collide l.fixed l.pairs) (length l.fixed) u
