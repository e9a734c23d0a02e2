use Rattle.micro_terms.proofs.Common.{◌≡◌, List, Some, length, ap, ◌∙◌, sym, refl, subst, slice_get, slice_get_read, IsLimited, Node}
use Rattle.micro_terms.proofs.Limits.{limited}
use Rattle.micro_terms.proofs.nodes.Nodes.range_of.Goals as goal

pub returns-in_ok-range-in-Some : goal.returns-in_ok-range-in-Some
returns-in_ok-range-in-Some c e fits inside =
    let xs = c.deref.result.now in
    let n = c.args.number in
    let ranges = c.args.ranges.now in
    let look = c.in-Some.ensures.lookup in
    let found : slice_get c.args.self.now.nodes.items n ≡ Some c.in-Some.node.now =
    ap (λ ys. slice_get ys n) (sym c.deref.ensures.value) ∙ slice_get_read xs (length xs) n c.in-Some.node.now refl look.3.0 look.1 in
    let limits : IsLimited e.word c.deref-in-Some.result.now ranges =
    subst (λ (nodes : List Node). IsLimited e.word nodes ranges) (sym c.deref-in-Some.ensures.value) (limited e c.args.self.now.nodes.items ranges fits inside) in
    c.in_ok-range-in-Some.ensures e (fits.nodes n c.in-Some.node.now found) limits
