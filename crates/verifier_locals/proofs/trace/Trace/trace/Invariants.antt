use Rattle.verifier_locals.proofs.Common.{◌+◌, length, IsTracing, blanks}
use Rattle.verifier_locals.proofs.trace.Trace.trace.Given as goal

abbrev pub invariant-loop-at : goal.invariant-loop-at
invariant-loop-at l = IsTracing l.graph l.search l.group l.start l.fn.locals l.self.marks.items l.self.todo.items

abbrev pub decreases-loop-at : goal.decreases-loop-at
decreases-loop-at l = blanks l.search l.self.marks.items + length l.self.todo.items
