use Rattle.mic2_datapath.proofs.Common.{ℕ, ap, ◌∙◌, arith, statement_of, Fields, controls_of, gates, Controls, flagged, value_of}
use Rattle.mic_words.specs.declared.machine.Machine.TheVariants as machines
use Rattle.mic2_datapath.proofs.control.computed_of.Goals as goal

pub returns : goal.returns
returns c =
    let s = statement_of machines.Mic2 c.args.word in
    let spelled = c.word_law.ensures.spells c.args.word c.requires in
    let its_gates = c.gates.ensures ∙ ap (λ (f : Fields). f.gates) spelled.fields in
    let computes =
    c.alu-value.ensures.value
    ∙ ap (λ (controls : Controls). gates controls c.args.a c.args.b) (c.from_bits-controls.ensures ∙ ap controls_of its_gates)
    ∙ c.each_row_computes.ensures s.part.op c.args.a c.args.b (omega arith) (omega arith) in
    c.flagged.ensures ∙ (λ i. flagged c.alu-value.result.value (c.shift_for.ensures i)) ∙ ap (λ (x : ℕ). value_of s x) computes
