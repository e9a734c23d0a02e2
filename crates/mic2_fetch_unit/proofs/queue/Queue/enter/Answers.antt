use Rattle.mic2_fetch_unit.proofs.Common.{◌≡◌, ◌+◌, ◌-◌, ◌*◌, ◌/◌, ◌%◌, ◌^◌, ◌<◌, ◌++◌, ℕ, length, drop, bit_or, ap, sym, subst, ◌∙◌, arith, shr_below}
use Rattle.mic2_fetch_unit.proofs.Common.{bytes_of_word, bytes_in}
use Rattle.mic2_fetch_unit.proofs.Packed.{length-bytes_in, append-bytes_in, word_without, or_after, following-lt}
use Rattle.mic2_fetch_unit.proofs.queue.Queue.enter.Goals as goal

pub invariant_of-self : goal.invariant_of-self
invariant_of-self c =
    let size : c.args.count + c.args.skip ≡ c.self.inside.count + 4 = omega (arith, c.requires.count, ap length c.self.view_is, length-bytes_in c.self.inside.count c.self.inside.bits) in
    let more : ℕ = c.turned.result / 2 ^ (8 * c.args.skip) in
    let wide : 32 ≡ 8 * (4 - c.args.skip) + 8 * c.args.skip = omega (arith, c.requires.skip) in
    let fits : more < 2 ^ (8 * (4 - c.args.skip)) = shr_below c.turned.result (8 * (4 - c.args.skip)) (8 * c.args.skip) (subst (λ (n : ℕ). c.turned.result < 2 ^ n) wide c.turned.type_inv) in
    let is : bit_or c.self.inside.bits (more * 2 ^ (8 * c.self.inside.count) % 2 ^ 64) ≡ c.self.inside.bits + more * 2 ^ (8 * c.self.inside.count) =
    or_after c.self.inside.bits more c.self.inside.count (4 - c.args.skip) c.self.invariant.1 fits (omega (arith, c.requires.few)) in (
      c.requires.few,
      subst (λ (bits : ℕ). bits < 2 ^ (8 * c.args.count)) (sym is)
          (following-lt c.self.inside.bits more c.self.inside.count (4 - c.args.skip) c.args.count c.self.invariant.1 fits (omega (arith, c.requires.skip))),
    )

pub returns : goal.returns
returns c =
    let size : c.args.count + c.args.skip ≡ c.self.inside.count + 4 = omega (arith, c.requires.count, ap length c.self.view_is, length-bytes_in c.self.inside.count c.self.inside.bits) in
    let more : ℕ = c.turned.result / 2 ^ (8 * c.args.skip) in
    let wide : 32 ≡ 8 * (4 - c.args.skip) + 8 * c.args.skip = omega (arith, c.requires.skip) in
    let fits : more < 2 ^ (8 * (4 - c.args.skip)) = shr_below c.turned.result (8 * (4 - c.args.skip)) (8 * c.args.skip) (subst (λ (n : ℕ). c.turned.result < 2 ^ n) wide c.turned.type_inv) in
    let entering : bytes_in (4 - c.args.skip) more ≡ drop c.args.skip (bytes_of_word c.args.word) =
    ap (λ (x : ℕ). bytes_in (4 - c.args.skip) (x / 2 ^ (8 * c.args.skip))) c.turned.ensures ∙ sym (word_without c.args.word c.args.skip c.requires.skip) in
    ap (bytes_in c.args.count) (or_after c.self.inside.bits more c.self.inside.count (4 - c.args.skip) c.self.invariant.1 fits (omega (arith, c.requires.few)))
    ∙ (append-bytes_in c.self.inside.count (4 - c.args.skip) c.args.count c.self.inside.bits more c.self.invariant.0 (omega (arith, c.requires.skip)) c.self.invariant.1
    ∙ (λ i. c.self.view_is i ++ entering i))
