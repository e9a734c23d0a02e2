use Rattle.mic2_datapath.proofs.Common.{◌%◌, ◌==◌, ap, statement_of, Fields}
use Rattle.mic2_datapath.proofs.Demands.{reads_or_writes}
use Rattle.mic2_datapath.proofs.control.reads.Goals as goal

pub returns : goal.returns
unfolding statement_of
returns c =
    let spelled = c.word_law.ensures.spells c.args.word c.requires.canonical in
    reads_or_writes _ _ (ap (λ (f : Fields). f.mem) spelled.fields) c.requires.accesses _ (λ i. c.mem.ensures i % 2 == 1)
