use Rattle.mic2_datapath.proofs.Common.{ℕ, ◌/◌, ◌%◌, ◌==◌, sym, ap, ◌∙◌, may_be_b, statement_of, Fields, enabled}
use Rattle.mic_words.specs.declared.machine.Machine.TheVariants as machines
use Rattle.mic2_datapath.proofs.control.operate_for.Goals as goal

pub operate-requires-clause-b : goal.operate-requires-clause-b
operate-requires-clause-b c =
    let s = statement_of machines.Mic2 c.args.word in
    let spelled = c.word_law.ensures.spells c.args.word c.requires.decoded.canonical in
    let valid = c.statement_law.ensures.conditions s spelled.valid in
    let gates = c.gates.ensures ∙ ap (λ (f : Fields). f.gates) spelled.fields in
    let on = λ (bits x : ℕ). enabled (bits / 4 % 2 == 1) x in
    (λ i. on (gates i) c.args.b) ∙ c.side_law.ensures s.part.op (may_be_b machines.Mic2) s.part.b c.args.b valid.b c.requires.b

pub returns : goal.returns
returns c =
    let s = statement_of machines.Mic2 c.args.word in
    let spelled = c.word_law.ensures.spells c.args.word c.requires.decoded.canonical in
    let gates = c.gates.ensures ∙ ap (λ (f : Fields). f.gates) spelled.fields in
    c.operate.ensures s.part.op (sym gates)
