use Rattle.tiny_names.proofs.Common.{◌≡◌, ℕ, ◌+◌, ◌-◌, length, lookup}
use Rattle.tiny_names.proofs.functions.put.Given as goal

abbrev pub invariant-loop-table : goal.invariant-loop-table
invariant-loop-table l = (other : ℕ) → lookup l.table.items other ≡ lookup l.initial.table.items other

abbrev pub decreases-loop-table : goal.decreases-loop-table
decreases-loop-table l = l.at + 1 - length l.table.items
