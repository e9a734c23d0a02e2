use Rattle.mic_datapath.proofs.Common.{◌≡◌, ℕ, ◌<◌, ◌≤◌, if◌then◌else◌, slice_index, names}
use Rattle.mic_datapath.proofs.c_bus.load_further.Given as goal

abbrev pub invariant-places : goal.invariant-places
invariant-places l =
    record {
      loaded : (k : ℕ) → l.fn.from ≤ k → k < l.place → slice_index l.places k ≡ (if names l.fn.c k then l.fn.value else slice_index l.initial.places k);
      before : (k : ℕ) → k < l.fn.from → slice_index l.places k ≡ slice_index l.initial.places k;
      others : (k : ℕ) → 9 ≤ k → slice_index l.places k ≡ slice_index l.initial.places k;
      after : (k : ℕ) → l.place ≤ k → slice_index l.places k ≡ slice_index l.initial.places k;
    }
