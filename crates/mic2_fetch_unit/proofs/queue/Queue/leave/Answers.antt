use Rattle.mic2_fetch_unit.proofs.Common.{◌≡◌, ◌+◌, ◌*◌, ◌^◌, ◌<◌, ℕ, length, drop, ap, sym, subst, ◌∙◌, arith, shr_below}
use Rattle.mic2_fetch_unit.proofs.Packed.{length-bytes_in, drop-bytes_in}
use Rattle.mic2_fetch_unit.proofs.queue.Queue.leave.Goals as goal

pub overflow_mul-stay : goal.overflow_mul-stay
overflow_mul-stay c = omega (arith, ap length c.self.view_is, length-bytes_in c.self.inside.count c.self.inside.bits, c.self.invariant.0)

pub overflow_shr-stay : goal.overflow_shr-stay
overflow_shr-stay c = omega (arith, ap length c.self.view_is, length-bytes_in c.self.inside.count c.self.inside.bits, c.self.invariant.0)

pub invariant_of-self : goal.invariant_of-self
invariant_of-self c =
    let size : 8 * c.self.inside.count ≡ 8 * c.args.count + 8 * c.args.taken = omega (arith, ap length c.self.view_is, length-bytes_in c.self.inside.count c.self.inside.bits) in (
      omega (arith, c.self.invariant.0),
      shr_below c.self.inside.bits (8 * c.args.count) (8 * c.args.taken) (subst (λ (n : ℕ). c.self.inside.bits < 2 ^ n) size c.self.invariant.1),
    )

pub returns : goal.returns
returns c =
    let size : c.self.inside.count ≡ c.args.taken + c.args.count = omega (arith, ap length c.self.view_is, length-bytes_in c.self.inside.count c.self.inside.bits) in
    sym (drop-bytes_in c.args.taken c.args.count c.self.inside.count c.self.inside.bits (omega (arith, c.self.invariant.0)) size)
    ∙ ap (drop c.args.taken) c.self.view_is
