use Rattle.mic1_checks.proofs.Common.{ℕ, ◌<◌, slice_index_or, Contains, Counts, CarriesInstruction}
use Rattle.mic1_checks.proofs.Shapes.{SETTLED, shapes}
use Rattle.mic1_checks.proofs.check.alike_in_each_shape.Given as goal

abbrev pub invariant-loop-shape : goal.invariant-loop-shape
invariant-loop-shape l =
    record {
      each : (k : ℕ) → k < l.shape-index → CarriesInstruction l.n (slice_index_or shapes k SETTLED)
          l.stores.store.now.words l.stores.other.now.words l.stores.entry l.stores.other_entry l.leaves.items;
      kept : (c : Counts) → Contains l.fn.leaves.items c → Contains l.leaves.items c;
    }
