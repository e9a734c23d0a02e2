use Rattle.tiny_names.proofs.Common.{◌≡◌, ◌≤◌, List, ℕ, ◌++◌, drop, length, map, block_faults, first, all_names, lookup}
use Rattle.tiny_draft.specs.Prelude.{statements_of, block_tree, statement_tree}
use Rattle.tiny_names.proofs.scope.+scope.Given as goal

abbrev pub invariant-block_fault-loop-statement : goal.invariant-block_fault-loop-statement
invariant-block_fault-loop-statement l = let rest = statements_of (map statement_tree (drop l.statement-index l.statement-items)) in
    (first (block_faults (lookup l.functions) l.in_main l.fn.declared.items l.fn.seen.items (block_tree l.block))
    ≡ first (block_faults (lookup l.functions) l.in_main l.declared.items l.seen.items rest))
    × (l.declared.items ++ all_names rest ≡ l.fn.declared.items ++ all_names (block_tree l.block))
    × ((more : List ℕ) × (l.seen.items ≡ l.fn.seen.items ++ more))
    × (l.before ≡ length l.fn.seen.items)
    × (length l.declared.items ≤ 255)
