use Rattle.micro_terms.proofs.Common.{◌∙◌, sym, ap, bit_and, value}
use Rattle.micro_terms.proofs.Bits.{and_all}
use Rattle.micro_terms.proofs.Weights.{value_lt}
use Rattle.micro_terms.proofs.conjunction.and_word.Goals as goal

pub returns-then-word-eq4294967295 : goal.returns-then-word-eq4294967295
returns-then-word-eq4294967295 c env =
    let t = c.args.other.now in
    c.in_ok-copy.ensures env ∙ (sym (and_all (value env t) (value_lt env t)) ∙ ap (λ w. bit_and w (value env t)) (sym c.if-word-eq4294967295.true))
