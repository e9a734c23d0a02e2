use Rattle.mic1_datapath.proofs.Common.{◌≡◌, ℕ, ◌/◌, ◌%◌, ◌==◌, Option, sym, ap, ◌∙◌, may_be_b, statement_of, alu, shifted, is_negative, Fields, BusSource}
use Rattle.mic1_datapath.proofs.Common.{enabled, source, result_of, computed, micro_in}
use Rattle.mic_words.specs.declared.machine.Machine.TheVariants as machines
use Rattle.mic1_datapath.proofs.buses.computed_by.Goals as goal

pub operate-value-requires-clause-b : goal.operate-value-requires-clause-b
unfolding statement_of
operate-value-requires-clause-b c =
    let s = statement_of machines.Mic1 c.args.word in
    let spelled = c.word_law.ensures.spells c.args.word c.requires.decoded.canonical in
    let valid = c.statement_law.ensures.conditions s spelled.valid in
    let gates = c.gates-gates.ensures ∙ ap (λ (f : Fields). f.gates) spelled.fields in
    let on = λ (bits x : ℕ). enabled (bits / 4 % 2 == 1) x in
    let m = micro_in c.args.latches.now in
    (λ i. on (gates i) c.args.b) ∙ c.side_law.ensures s.part.op (may_be_b machines.Mic1) s.part.b c.args.b valid.b
    (λ e. c.requires.b ∙ ap (λ (b : Option BusSource). source b m) e)

pub returns : goal.returns
unfolding computed statement_of
returns c =
    let s = statement_of machines.Mic1 c.args.word in
    let spelled = c.word_law.ensures.spells c.args.word c.requires.decoded.canonical in
    let gates = c.gates-gates.ensures ∙ ap (λ (f : Fields). f.gates) spelled.fields in
    let x : c.operate-value.result ≡ result_of s.part (micro_in c.args.latches.now) =
    c.operate-value.ensures s.part.op (sym gates) ∙ ap (λ (x : ℕ). alu s.part.op (micro_in c.args.latches.now).h x) c.requires.b in
    let shift = c.shift_for-c.ensures ∙ ap (λ (v : ℕ). shifted s.part.shift v) x in
    λ i. record { alu = record { value = x i; n = is_negative (x i); z = x i == 0 }; c = shift i }
