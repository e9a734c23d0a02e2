use Rattle.tiny_names.proofs.Common.{◌≡◌, ◌≤◌, ℕ, drop, length, map, called_from, lookup}
use Rattle.tiny_draft.specs.Prelude.{function_tree}
use Rattle.tiny_names.proofs.functions.signatures.Given as goal

abbrev pub invariant-loop-left : goal.invariant-loop-left
invariant-loop-left l = record {
  within : l.left ≤ length l.functions;
  known : (name : ℕ) → lookup l.table.items name ≡ called_from l.left (map function_tree (drop l.left l.functions)) name;
}

abbrev pub decreases-loop-left : goal.decreases-loop-left
decreases-loop-left l = l.left
