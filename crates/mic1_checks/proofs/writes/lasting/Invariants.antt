use Rattle.mic1_checks.proofs.Common.{◌≡◌, ℕ, List, drop, Environment, written_by}
use Rattle.mic1_checks.proofs.writes.lasting.Given as goal

abbrev pub invariant-loop-place : goal.invariant-loop-place
invariant-loop-place l =
    (e : Environment) (words : List ℕ) → written_by e.word (drop l.place l.writes) (written_by e.word l.kept.items words) ≡ written_by e.word l.writes words
