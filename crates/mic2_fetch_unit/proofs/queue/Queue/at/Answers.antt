use Rattle.mic2_fetch_unit.proofs.Common.{◌<◌, ◌*◌, ◌/◌, ◌^◌, List, ℕ, length, get_or, ap, sym, ◌∙◌, arith, and_mask}
use Rattle.mic2_fetch_unit.proofs.Packed.{length-bytes_in, byte-bytes_in}
use Rattle.mic2_fetch_unit.proofs.queue.Queue.at.Goals as goal

pub overflow_mul-result : goal.overflow_mul-result
overflow_mul-result c = omega (arith, ap length c.self.view_is, length-bytes_in c.self.inside.count c.self.inside.bits, c.self.invariant.0)

pub overflow_shr-result : goal.overflow_shr-result
overflow_shr-result c = omega (arith, ap length c.self.view_is, length-bytes_in c.self.inside.count c.self.inside.bits, c.self.invariant.0)

pub returns : goal.returns
returns c =
    let within : c.args.place < c.self.inside.count = omega (arith, ap length c.self.view_is, length-bytes_in c.self.inside.count c.self.inside.bits) in
    and_mask (c.self.inside.bits / 2 ^ (8 * c.args.place)) 8
    ∙ (sym (byte-bytes_in c.self.inside.count c.args.place c.self.inside.bits c.self.invariant.0 within)
    ∙ ap (λ (bytes : List ℕ). get_or bytes c.args.place 0) c.self.view_is)
