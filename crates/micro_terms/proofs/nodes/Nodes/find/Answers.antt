use Rattle.micro_terms.proofs.Common.{◌≡◌, Some, length, ap, ◌∙◌, sym, refl, arith, slice_get, slice_get_read}
use Rattle.micro_terms.proofs.nodes.Nodes.find.Goals as goal

pub returns-then-is_same : goal.returns-then-is_same
returns-then-is_same c e fits =
    let place : c.in-Ok.place ≡ c.loop-i.i = omega (arith, c.in-Ok.ensures) in
    let is = c.other-item.is in
    let items = c.deref-other-items.ensures.value in
    let found : slice_get c.args.self.now.nodes.items c.in-Ok.place ≡ Some c.other-item.result =
    ap (λ k. slice_get c.args.self.now.nodes.items k) place
    ∙ (ap (λ xs. slice_get xs c.loop-i.i) (sym items)
    ∙ slice_get_read c.deref-other-items.result.now (length c.deref-other-items.result.now) c.loop-i.i c.other-item.result refl c.loop-i-test.true is) in
    c.if-is_same.ensures refl e (e.word c.in-Ok.place) (fits.nodes c.in-Ok.place c.other-item.result found)
