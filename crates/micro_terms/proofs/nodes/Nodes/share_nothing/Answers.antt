use Rattle.micro_terms.proofs.Common.{bit_and, ◌∙◌, ap, refl, value}
use Rattle.micro_terms.proofs.Bits.{and_apart}
use Rattle.micro_terms.proofs.nodes.Nodes.share_nothing.Goals as goal

pub returns-then-has_no_low_byte : goal.returns-then-has_no_low_byte
returns-then-has_no_low_byte c h e fits =
    let n = c.in-Some.number in
    let a = value e.word c.args.a.now in
    ap (λ w. bit_and a w) (c.in-Some.ensures e.word (fits.words n))
    ∙ and_apart a (e.word n) (c.if-has_no_low_byte.ensures refl e.word) (c.is_byte.ensures h e fits)
