use Rattle.tiny_emit.proofs.Common.{◌≡◌, ◌+◌, drop, map, vars_of, statements_of, statement_tree}
use Rattle.tiny_emit.proofs.vars.+vars.Given as goal

abbrev pub invariant-vars_of_all-loop-statement : goal.invariant-vars_of_all-loop-statement
invariant-vars_of_all-loop-statement l =
    l.count + vars_of (statements_of (map statement_tree (drop l.statement-index l.statements)))
    ≡ vars_of (statements_of (map statement_tree l.statements))
