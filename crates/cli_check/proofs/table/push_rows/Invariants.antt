use Rattle.cli_check.proofs.Common.{◌≡◌, ◌++◌, drop, rows_text}
use Rattle.cli_check.proofs.table.push_rows.Given as goal

abbrev pub invariant-loop-instr : goal.invariant-loop-instr
invariant-loop-instr l = l.text.items ++ rows_text l.costs (drop l.instr-index l.table) ≡ l.initial.text.items ++ rows_text l.costs l.table
