use Rattle.mic1_passes.proofs.Common.{◌≡◌, ◌+◌, ℕ, mic1_meaning, pass, Holds, Grows, Knows, IsPath, moment}
use Rattle.mic1_passes.proofs.Walks.{Came}
use Rattle.mic1_passes.proofs.run.follow.Given as goal

abbrev pub invariant-loop-n : goal.invariant-loop-n
invariant-loop-n l =
    record {
      walked : Holds l.work.nodes (λ e. Knows e l.known → IsPath e l.fn.path →
          IsPath e l.path × ((stalls k : ℕ) → pass mic1_meaning l.store.words (l.n + k) (moment e stalls l.entry l.fn.path) ≡ pass mic1_meaning l.store.words k (moment e stalls l.entry l.path)));
      came : Holds l.work.nodes (λ e. Knows e l.known → IsPath e l.fn.path → (stalls n : ℕ) → l.n ≡ n + 1 → Came e l.store.words stalls l.entry n l.fn.path l.path);
      grows : Grows l.fn.work.nodes l.work.nodes;
    }
