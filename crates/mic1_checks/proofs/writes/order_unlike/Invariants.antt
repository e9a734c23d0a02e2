use Rattle.mic1_checks.proofs.Common.{◌≡◌, ℕ, List, take, Holds, Knows, written_by}
use Rattle.mic1_checks.proofs.writes.order_unlike.Given as goal

abbrev pub invariant-loop-place : goal.invariant-loop-place
invariant-loop-place l =
    Holds l.nodes (λ e. Knows e l.known → (words : List ℕ) →
    written_by e.word l.left.items (written_by e.word (take l.place l.wanted) words) ≡ written_by e.word l.is words)
