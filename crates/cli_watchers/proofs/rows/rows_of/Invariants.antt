use Rattle.cli_watchers.specs.Prelude.{AreRowsUpTo}
use Rattle.cli_watchers.proofs.rows.rows_of.Given as goal

-- the rows so far
abbrev pub invariant-loop-at : goal.invariant-loop-at
invariant-loop-at l = AreRowsUpTo l.image.image l.at l.rows.items
