use Rattle.mic2_fetch_unit.proofs.Common.{◌≡◌, ◌-◌, ◌<◌, true, length, ap, subst, ◌∙◌, arith, nat_lt, nat_tests, IsUnit, Prefetch}
use Rattle.mic2_fetch_unit.proofs.Units.{full_samples}
use Rattle.mic2_fetch_unit.proofs.fetch_unit.FetchUnit.is_full.Goals as goal

pub returns-clause-samples : goal.returns-clause-samples
returns-clause-samples c =
    let u : Prefetch = c.args.self.now in
    let is_unit : IsUnit u = subst IsUnit c.self.view_is c.self.invariant in
    let have : c.count-have.result ≡ length u.bytes = c.count-have.ensures.value ∙ ap (λ (v : Prefetch). length v.bytes) c.self.view_is in
    λ is.
    let test : nat_lt 2 (c.count-have.result - c.args.taken) ≡ true = is in
    let more : 2 < c.count-have.result - c.args.taken = grind (arith, nat_tests) in
    full_samples c.args.taken u is_unit (omega (arith, have, more))
