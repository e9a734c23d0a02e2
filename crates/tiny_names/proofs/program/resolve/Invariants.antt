use Rattle.tiny_names.proofs.Common.{◌≡◌, drop, map, take, function_tree, faults_from, first, lookup, function_of}
use Rattle.tiny_draft.specs.View as draft_view
use Rattle.tiny_names.proofs.program.resolve.Given as goal

abbrev pub invariant-loop-function : goal.invariant-loop-function
invariant-loop-function l = record {
  count : l.place ≡ l.function-index;
  found : map function_tree l.found ≡ map (function_of (lookup l.table.items)) (map draft_view.function_tree (take l.function-index l.written));
  same : first (faults_from (lookup l.table.items) 0 (map draft_view.function_tree l.written))
      ≡ first (faults_from (lookup l.table.items) l.function-index (map draft_view.function_tree (drop l.function-index l.written)));
}
