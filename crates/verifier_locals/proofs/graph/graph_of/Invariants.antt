use Rattle.verifier_locals.proofs.Common.{◌≡◌, ℕ, Some, vec_len, slice_get, Node, IsNodeAt}
use Rattle.verifier_locals.proofs.graph.graph_of.Given as goal

abbrev pub invariant-loop-at : goal.invariant-loop-at
invariant-loop-at l = record {
  long : vec_len l.graph ≡ l.at;
  nodes : (at : ℕ) (node : Node) → slice_get l.graph.items at ≡ Some node → IsNodeAt l.image l.seen at node;
}
