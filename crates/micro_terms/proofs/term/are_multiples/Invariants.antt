use Rattle.micro_terms.proofs.Common.{◌≡◌, ◌%◌, ℕ, take, weight}
use Rattle.micro_terms.proofs.term.are_multiples.Given as goal

abbrev pub invariant-loop-part : goal.invariant-loop-part
invariant-loop-part l = (env : ℕ → ℕ) → weight env (take l.part-index l.parts) % 256 ≡ 0
