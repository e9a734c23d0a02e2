use Rattle.verifier_locals.proofs.Common.{ℕ, ◌<◌, ◌+◌, ◌≡◌, length, Some, slice_get, Wanted, IsReady, AreSet}
use Rattle.verifier_locals.proofs.unset.check_locals.Given as goal

abbrev pub invariant-loop-i : goal.invariant-loop-i
invariant-loop-i l = record {
  ready : IsReady (l.i + 1) (length l.short.items) l.trace.marks.items l.trace.todo.items;
  set : (j : ℕ) (w : Wanted) → j < l.i → slice_get l.wanted.items j ≡ Some w → AreSet l.image w;
}
