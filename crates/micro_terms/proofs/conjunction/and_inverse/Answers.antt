use Rattle.micro_terms.proofs.Common.{◌∙◌, sym, ap, refl, bit_and, value}
use Rattle.micro_terms.proofs.Bits.{and_inverted}
use Rattle.micro_terms.proofs.Weights.{value_lt}
use Rattle.micro_terms.proofs.conjunction.and_inverse.Goals as goal

pub returns-then-same : goal.returns-then-same
returns-then-same c env =
    let a = c.args.left.now in
    c.of_word.ensures env
    ∙ (sym (and_inverted (value env a) (value_lt env a))
    ∙ ap (λ w. bit_and (value env a) w) (sym (c.in_ok-inverse.ensures env) ∙ c.if-same.ensures refl env))
