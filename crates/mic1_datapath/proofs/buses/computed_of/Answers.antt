use Rattle.mic1_datapath.proofs.Common.{◌≡◌, ℕ, ◌==◌, ap, ◌∙◌, arith, is_negative, statement_of, alu, shifted, Fields, gates, controls_of, Controls}
use Rattle.mic_words.specs.declared.machine.Machine.TheVariants as machines
use Rattle.mic1_datapath.proofs.buses.computed_of.Goals as goal

pub returns : goal.returns
unfolding statement_of
returns c =
    let a = c.args.a in
    let b = c.args.b in
    let part = (statement_of machines.Mic1 c.args.word).part in
    let spelled = c.word_law.ensures.spells c.args.word c.requires in
    let bits = c.gates.ensures ∙ ap (λ (f : Fields). f.gates) spelled.fields in
    let controls = c.from_bits-controls.ensures ∙ ap controls_of bits in
    let x : c.alu-alu.result.value ≡ alu part.op a b =
    c.alu-alu.ensures.value ∙ (ap (λ (k : Controls). gates k a b) controls ∙ c.each_row_computes.ensures part.op a b (omega arith) (omega arith)) in
    let n = c.alu-alu.ensures.n ∙ ap is_negative x in
    let z = c.alu-alu.ensures.z ∙ ap (λ (v : ℕ). v == 0) x in
    let shift = c.shift_for.ensures ∙ ap (λ (v : ℕ). shifted part.shift v) x in
    λ i. record { alu = record { value = x i; n = n i; z = z i }; c = shift i }
