use Rattle.micro_word.proofs.Common.{ℕ, IsTrue, subst, sym, Mic2}
use Rattle.micro_word.specs.Prelude.{is_canonical}
use Rattle.micro_word.proofs.Coding.{canonical-word}
use Rattle.micro_word.proofs.word.encode2.Goals as goal

pub invariant_of-result : goal.invariant_of-result
invariant_of-result c = subst (λ (w : ℕ). IsTrue (is_canonical Mic2 w)) (sym c.bits_of.ensures) (canonical-word Mic2 c.args.placed.now c.requires)
