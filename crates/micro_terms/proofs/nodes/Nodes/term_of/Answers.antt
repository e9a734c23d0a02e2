use Rattle.micro_terms.proofs.Common.{◌≡◌, Some, length, ap, ◌∙◌, sym, refl, slice_get, slice_get_read}
use Rattle.micro_terms.proofs.nodes.Nodes.term_of.Goals as goal

pub returns-in_ok-term-in-Some : goal.returns-in_ok-term-in-Some
returns-in_ok-term-in-Some c e fits =
    let xs = c.deref.result.now in
    let n = c.args.number in
    let look = c.in-Some.ensures.lookup in
    let found : slice_get c.args.self.now.nodes.items n ≡ Some c.in-Some.node.now =
    ap (λ ys. slice_get ys n) (sym c.deref.ensures.value) ∙ slice_get_read xs (length xs) n c.in-Some.node.now refl look.3.0 look.1 in
    c.in_ok-term-in-Some.ensures e (fits.words n) (fits.nodes n c.in-Some.node.now found)
