use Rattle.mic3_datapath.proofs.Common.{◌||◌, ◌∙◌, statement_of}
use Rattle.mic_words.specs.declared.machine.Machine.TheVariants as machines
use Rattle.mic3_datapath.proofs.Bits.{only_mdr}
use Rattle.mic3_datapath.proofs.hazards.names_mdr.Goals as goal

pub returns : goal.returns
returns c =
    let s = statement_of machines.Mic2 c.args.control.now.word in
    c.names_one_of.ensures ∙ (λ i. only_mdr s.part.a i || only_mdr s.part.b i)
