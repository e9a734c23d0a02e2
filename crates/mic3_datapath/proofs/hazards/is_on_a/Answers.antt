use Rattle.mic3_datapath.proofs.Common.{ℕ, ap, ◌∙◌, statement_of, names}
use Rattle.mic_words.specs.declared.machine.Machine.TheVariants as machines
use Rattle.mic3_datapath.proofs.Bits.{side_named}
use Rattle.mic3_datapath.proofs.hazards.is_on_a.Goals as goal

pub returns : goal.returns
unfolding statement_of
returns c =
    let control = c.args.control.now in
    let s = statement_of machines.Mic2 control.word in
    c.is_named.ensures
    ∙ (ap (λ (place : ℕ). names c.args.destinations place) control.decoded.a ∙ side_named c.args.destinations s.part.a c.requires)
