use Rattle.std.proofs.Common.{◌≡◌, ◌+◌, ◌≤◌, ◌++◌, drop, length, count_by, is_none}
use Rattle.store_placement.specs.Prelude.{with_free}
use Rattle.store_placement.proofs.steps.with_free.Given as goal

abbrev pub invariant-loop-place : goal.invariant-loop-place
invariant-loop-place l =
    (l.addresses.items ++ with_free (drop l.place-index l.placed) (drop l.used l.free) ≡ with_free l.placed l.free)
    × (length l.addresses.items ≡ l.place-index)
    × (l.used + count_by (λ o. is_none o) (drop l.place-index l.placed) ≤ length l.free)
