use Rattle.micro_terms.proofs.Common.{◌+◌, ◌-◌, ◌∙◌, wrap, value}
use Rattle.micro_terms.proofs.Bits.{or_is}
use Rattle.micro_terms.proofs.Weights.{value_lt}
use Rattle.micro_terms.proofs.nodes.Nodes.or.Goals as goal

pub returns-clause-value : goal.returns-clause-value
returns-clause-value c e fits =
    let a = value e.word c.args.a.now in
    let b = value e.word c.args.b.now in
    c.in_ok-term.ensures e.word
    ∙ ((λ i. wrap (c.in_ok-sum.ensures e.word i + (4294967296 - c.in_ok-both.ensures.value e fits i)))
    ∙ or_is a b (value_lt e.word c.args.a.now) (value_lt e.word c.args.b.now))
