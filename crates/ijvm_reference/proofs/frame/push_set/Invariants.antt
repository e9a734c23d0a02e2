use Rattle.std.proofs.Common.{◌≡◌, ◌++◌, Some, map, take}
use Rattle.ijvm_reference.proofs.frame.push_set.Given as goal

abbrev pub invariant-loop-value : goal.invariant-loop-value
invariant-loop-value l = l.locals.items ≡ l.initial.locals.items ++ map Some (take l.value-index l.values)
