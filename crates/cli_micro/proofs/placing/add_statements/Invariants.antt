use Rattle.cli_micro.proofs.Common.{◌≡◌, ◌++◌, map, text_of, below, statement_line}
use Rattle.cli_micro.proofs.placing.add_statements.Given as goal

abbrev pub invariant-loop-s : goal.invariant-loop-s
invariant-loop-s l = l.text.items ≡ l.fn.text.items ++ text_of (map (statement_line l.program l.placement l.store) (below l.s))
