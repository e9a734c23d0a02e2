use Rattle.mic_alu.proofs.Common.{ℕ, suc, carry_to}
use Rattle.mic_alu.proofs.Chain.{begun, comes_to}
use Rattle.mic_alu.proofs.slices.carries.Goals as goal

pub returns : goal.returns
returns c =
    comes_to c.args.wires c.args.inc c.args.a c.args.b c.slices-made.result.carries c.slices-passed.result.carries c.first-first.result c.first-first.ensures
    c.slices-made.ensures.carry c.slices-passed.ensures.carry c.settle.result
    (c.settle.ensures (λ (i : ℕ). carry_to c.args.wires c.args.inc c.args.a c.args.b (suc i))
    (begun c.args.wires c.args.inc c.args.a c.args.b c.slices-made.result.carries c.slices-passed.result.carries c.first-first.result c.first-first.ensures
    c.slices-made.ensures.carry c.slices-passed.ensures.carry))
