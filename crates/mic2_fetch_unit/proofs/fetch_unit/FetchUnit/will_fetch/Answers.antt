use Rattle.mic2_fetch_unit.proofs.Common.{◌≡◌, ℕ, ◌+◌, ◌-◌, Some, None, length, if◌then◌else◌, sym, ap, subst, ◌∙◌, arith, nat_le, wrap, next, IsUnit, Prefetch}
use Rattle.mic2_fetch_unit.proofs.Units.{full_samples, will_some}
use Rattle.mic2_fetch_unit.proofs.fetch_unit.FetchUnit.will_fetch.Goals as goal

pub returns-then-full : goal.returns-then-full
returns-then-full c =
    let u : Prefetch = c.args.self.now in
    let is_unit : IsUnit u = subst IsUnit c.self.view_is c.self.invariant in
    let have : c.count-have.result ≡ length u.bytes = c.count-have.ensures.value ∙ ap (λ (v : Prefetch). length v.bytes) c.self.view_is in
    sym (full_samples c.args.taken u is_unit (omega (arith, c.if-full.true, have)))

pub returns-in-Some : goal.returns-in-Some
unfolding wrap
returns-in-Some c =
    let u : Prefetch = c.args.self.now in
    let is : u.pending ≡ Some c.in-Some.field-0 = ap (λ (v : Prefetch). v.pending) (sym c.self.view_is) ∙ c.in-Some.is in
    let skip : c.self.inside.skip ≡ u.skip = ap (λ (v : Prefetch). v.skip) c.self.view_is in
    let imar : c.self.inside.imar ≡ u.imar = ap (λ (v : Prefetch). v.imar) c.self.view_is in
    let have : c.count-have.result ≡ length u.bytes = c.count-have.ensures.value ∙ ap (λ (v : Prefetch). length v.bytes) c.self.view_is in
    let count : ℕ = c.count-have.result - c.args.taken + 4 - c.self.inside.skip in
    let size : count ≡ length u.bytes - c.args.taken + (4 - u.skip) = omega (arith, have, skip, c.self.invariant.skip) in
    c.at_if.ensures
    ∙ (ap (λ (x : ℕ). if nat_le count 2 then Some (next x) else None) imar
    ∙ will_some c.args.taken count c.in-Some.field-0 u is size)
