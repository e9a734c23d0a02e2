use Rattle.std.proofs.Common.{◌≡◌, [], map, take}
use Rattle.store_placement.proofs.demands.fixed_of.Given as goal

abbrev pub invariant-loop-s : goal.invariant-loop-s
invariant-loop-s l = (l.constraints.fixed ≡ map (λ s. s.fixed) (take l.s l.program.statements)) × (l.constraints.pairs ≡ [])
