use Rattle.mic_datapath.proofs.Common.{◌==◌, ◌∙◌, is_negative, jammed}
use Rattle.mic_datapath.proofs.Jams.{by_address}
use Rattle.mic_datapath.proofs.jam.next_address.Goals as goal

pub returns-clause-next : goal.returns-clause-next
returns-clause-next c =
    λ n valid addr jam.
    c.jammed_address.ensures.bits
    ∙ (λ i. jammed (addr i) (jam i) (is_negative c.args.value) (c.args.value == 0) c.args.byte)
    ∙ by_address n c.args.value c.args.byte valid
