use Rattle.mic2_fetch_unit.proofs.Common.{◌≡◌, None, drop, sym, ap, subst, ◌∙◌, arith, IsUnit, Prefetch}
use Rattle.mic2_fetch_unit.proofs.Units.{edge_full, full_pending}
use Rattle.mic2_fetch_unit.proofs.fetch_unit.FetchUnit.take.Goals as goal

pub returns : goal.returns
returns c =
    let u : Prefetch = c.args.self.now in
    let is_unit : IsUnit u = subst IsUnit c.self.view_is c.self.invariant in
    let bytes : c.leave.new.self ≡ drop c.args.taken u.bytes = c.leave.ensures ∙ ap (λ (v : Prefetch). drop c.args.taken v.bytes) c.self.view_is in
    let none : c.self.inside.pending ≡ None = ap (λ (v : Prefetch). v.pending) c.self.view_is ∙ full_pending u is_unit (omega (arith, c.requires)) in
    λ words.
    (λ i. record { bytes = bytes i; imar = (c.self.view_is i).imar; skip = (c.self.view_is i).skip; pending = none i })
    ∙ sym (edge_full words c.args.taken u is_unit c.requires)
