use Rattle.std.proofs.Common.{◌≡◌, ◌/◌, ◌%◌, true, ap, sym, ◌∙◌, bit_and, bit_xor, ◌==◌}
use Rattle.mic_alu.specs.Prelude.{enabled, combined}
use Rattle.mic_alu.proofs.Lines.{through}
use Rattle.mic_alu.proofs.gates.alu_by_lines.Goals as goal

pub returns : goal.returns
returns c =
    let a : bit_and c.args.a c.args.ena ≡ enabled (c.args.bits / 8 % 2 == 1) c.args.a = ap (bit_and c.args.a) c.requires.ena ∙ through (c.args.bits / 8 % 2 == 1) c.args.a c.ranges.a.fits in
    let b : bit_and c.args.b 4294967295 ≡ enabled (c.args.bits / 4 % 2 == 1) c.args.b = through true c.args.b c.ranges.b.fits ∙ sym c.requires.b in
    c.gated.ensures ∙ (λ i. combined (c.args.bits / 32 % 2 == 1) (c.args.bits / 16 % 2 == 1) (c.args.bits % 2 == 1) (bit_xor (a i) (c.requires.inva i)) (b i))
