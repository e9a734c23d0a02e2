use Rattle.micro_word.proofs.Common.{ℕ, IsTrue, subst, sym, Mic1}
use Rattle.micro_word.specs.Prelude.{is_canonical}
use Rattle.micro_word.proofs.Coding.{canonical-word}
use Rattle.micro_word.proofs.word.encode1.Goals as goal

pub invariant_of-result : goal.invariant_of-result
invariant_of-result c = subst (λ (w : ℕ). IsTrue (is_canonical Mic1 w)) (sym c.bits_of.ensures) (canonical-word Mic1 c.args.placed.now c.requires)
