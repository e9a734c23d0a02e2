use Rattle.mic1_checks.proofs.Common.{◌≡◌, ℕ, ◌<◌, None, slice_index_or, Contains, Counts, Shape, CarriesInstruction, plain}
use Rattle.mic1_checks.proofs.all.ask_each.Given as goal

abbrev pub invariant-loop-n : goal.invariant-loop-n
invariant-loop-n l =
    record {
      each : l.search.first ≡ None → (k : ℕ) → k < l.n-index → (shape : Shape) → CarriesInstruction (slice_index_or l.all k (plain 0 0)) shape
          l.stores.store.now.words l.stores.other.now.words l.stores.entry l.stores.other_entry l.search.leaves.items;
      kept : (c : Counts) → Contains l.fn.search.leaves.items c → Contains l.search.leaves.items c;
      first : l.search.first ≡ None → l.fn.search.first ≡ None;
    }
