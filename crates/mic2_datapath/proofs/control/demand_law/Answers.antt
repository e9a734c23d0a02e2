use Rattle.mic2_datapath.proofs.Common.{ap, ◌∙◌, statement_of, Fields}
use Rattle.mic_words.specs.declared.machine.Machine.TheVariants as machines
use Rattle.mic2_datapath.proofs.Demands.{takes_are}
use Rattle.mic2_datapath.proofs.control.demand_law.Goals as goal

pub returns : goal.returns
unfolding statement_of
returns c =
    let s = statement_of machines.Mic2 c.args._word in
    let its = c.requires.decoded in
    let spelled = c.word_law.ensures.spells c.args._word c.requires.canonical in
    let valid = c.statement_law.ensures.conditions s spelled.valid in
    record {
      canonical = c.requires.canonical;
      decoded = its;
      demands = its.takes ∙ takes_are s _ _ _ valid its.a its.b (ap (λ (f : Fields). f.jam) spelled.fields);
    }
