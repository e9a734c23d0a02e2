use Rattle.tiny_emit.proofs.Common.{drop, Text, AddsStatements}
use Rattle.tiny_emit.proofs.block.+block.Given as goal

-- what ends with the statements that are left ends with all of them
abbrev pub invariant-add_statements-loop-statement : goal.invariant-add_statements-loop-statement
invariant-add_statements-loop-statement l = (end : Text) →
    AddsStatements l.table l.local l.text end (drop l.statement-index l.statements) → AddsStatements l.table l.local l.fn.text end l.statements
