use Rattle.micro_terms.proofs.Common.{bit_and, ◌+◌, ◌-◌, ◌∙◌, ap, wrap, value}
use Rattle.micro_terms.proofs.Bits.{and_rest}
use Rattle.micro_terms.proofs.Weights.{value_lt}
use Rattle.micro_terms.proofs.nodes.Nodes.and.Goals as goal

pub returns-clause-value : goal.returns-clause-value
returns-clause-value c e fits =
    let a = value e.word c.args.a.now in
    let b = value e.word c.args.b.now in
    let rest = c.in_ok-both.ensures.value e fits ∙ ap (λ w. bit_and w b) (c.in_ok-inverse.ensures e.word) in
    c.in_ok-term-2.ensures e.word
    ∙ (ap (λ w. wrap (b + (4294967296 - w))) rest
    ∙ and_rest a b (value_lt e.word c.args.a.now) (value_lt e.word c.args.b.now))
