use Rattle.mic_datapath.proofs.Common.{ℕ, sym, ap, ◌∙◌, arith, gates, controls_of}
use Rattle.mic_datapath.proofs.alu.operate.Goals as goal

pub returns : goal.returns
returns c =
    λ op row_is.
    c.alu_by_lines.ensures
    ∙ ap (λ (bits : ℕ). gates (controls_of bits) c.args.a c.args.b) (sym row_is)
    ∙ c.each_row_computes.ensures op c.args.a c.args.b (omega arith) (omega arith)
