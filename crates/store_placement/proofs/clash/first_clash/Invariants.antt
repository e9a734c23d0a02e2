use Rattle.store_placement.specs.Prelude.{Never, clashes}
use Rattle.store_placement.proofs.clash.first_clash.Given as goal

abbrev pub invariant-loop-s : goal.invariant-loop-s
invariant-loop-s l = Never (clashes l.pairs) l.s
