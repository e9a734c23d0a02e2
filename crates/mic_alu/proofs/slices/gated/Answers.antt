use Rattle.mic_alu.proofs.Common.{◌<◌, ◌^◌, ◌∙◌, ℕ, ap, sym, arith, slice_bit, carry_to}
use Rattle.mic_alu.proofs.Chain.{all_bits}
use Rattle.mic_alu.proofs.Slice.{any_carry}
use Rattle.mic_alu.proofs.slices.gated.Goals as goal

pub returns-then-is_adder : goal.returns-then-is_adder
returns-then-is_adder c =
    let small : c.slices-sum.result.bits < 2 ^ 32 = omega (arith, c.slices-sum.type_inv) in
    let inva : c.args.wires.inva < 2 ^ 32 = omega (arith, c.well_formed) in
    all_bits c.args.wires c.args.inc c.args.a c.args.b c.slices-sum.result.bits small inva c.ranges.a.fits c.ranges.b.fits
    (λ i h. c.slices-sum.ensures.bit i h ∙ ap (λ (n : ℕ). slice_bit c.args.wires c.args.a c.args.b n i) (c.carries.ensures i h))

pub returns : goal.returns
returns c =
    let small : c.slices-chosen.result.bits < 2 ^ 32 = omega (arith, c.slices-chosen.type_inv) in
    let inva : c.args.wires.inva < 2 ^ 32 = omega (arith, c.well_formed) in
    all_bits c.args.wires c.args.inc c.args.a c.args.b c.slices-chosen.result.bits small inva c.ranges.a.fits c.ranges.b.fits
    (λ i h. c.slices-chosen.ensures.bit i h
    ∙ any_carry c.args.wires c.args.a c.args.b _ (carry_to c.args.wires c.args.inc c.args.a c.args.b i) i (sym c.is_adder.ensures ∙ c.if-is_adder.false))
