use Rattle.store_placement.specs.Prelude.{Never, in_wrong_half}
use Rattle.store_placement.proofs.clash.first_in_wrong_half.Given as goal

abbrev pub invariant-loop-s : goal.invariant-loop-s
invariant-loop-s l = Never (in_wrong_half l.fixed l.pairs) l.s
