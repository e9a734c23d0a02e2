use Rattle.std.proofs.Common.{◌≡◌, ◌++◌, None, replicate}
use Rattle.ijvm_reference.proofs.frame.push_unset.Given as goal

abbrev pub invariant-loop : goal.invariant-loop
invariant-loop l = l.locals.items ≡ l.initial.locals.items ++ replicate l.counter None
