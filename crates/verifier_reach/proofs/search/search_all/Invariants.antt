use Rattle.verifier_reach.proofs.Common.{◌+◌, length, IsRunning, empties}
use Rattle.verifier_reach.proofs.search.search_all.Given as goal

abbrev pub invariant-loop-here : goal.invariant-loop-here
invariant-loop-here l = IsRunning l.image l.search.seen.items l.search.todo.items

abbrev pub decreases-loop-here : goal.decreases-loop-here
decreases-loop-here l = empties l.search.seen.items + length l.search.todo.items
