use Rattle.std.proofs.Common.{◌≡◌, ap, ◌∙◌, bit_and, bit_xor}
use Rattle.mic_alu.specs.Prelude.{enabled, combined}
use Rattle.mic_alu.proofs.Lines.{through}
use Rattle.mic_alu.proofs.gates.alu.Goals as goal

pub returns-clause-value : goal.returns-clause-value
returns-clause-value c =
    let a : bit_and c.args.a c.spread.result ≡ enabled c.args.controls.ena c.args.a = ap (bit_and c.args.a) c.spread.ensures ∙ through c.args.controls.ena c.args.a c.ranges.a.fits in
    let b : bit_and c.args.b c.spread-2.result ≡ enabled c.args.controls.enb c.args.b = ap (bit_and c.args.b) c.spread-2.ensures ∙ through c.args.controls.enb c.args.b c.ranges.b.fits in
    c.gated-value.ensures ∙ (λ i. combined c.args.controls.f0 c.args.controls.f1 c.args.controls.inc (bit_xor (a i) (c.spread-3.ensures i)) (b i))
