use Rattle.micro_terms.proofs.Common.{◌≡◌, ◌<◌, ℕ, Some, slice_get, Node, NamesBelow}
use Rattle.micro_terms.proofs.order.is_ordered.Given as goal

abbrev pub invariant-loop-i : goal.invariant-loop-i
invariant-loop-i l = (j : ℕ) (node : Node) → j < l.i → slice_get l.table j ≡ Some node → NamesBelow j node
