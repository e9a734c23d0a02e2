use Rattle.mic2_datapath.proofs.Common.{slice_index, ap, ◌∙◌, arith, signed_byte}
use Rattle.mic2_datapath.proofs.latches.Latches.show_front.Goals as goal

pub returns-then-two-clause-front : goal.returns-then-two-clause-front
returns-then-two-clause-front c =
    let bytes = c.args.self.now.unit.bytes in
    let kept = c.show_pair.ensures.others in
    record {
      byte = λ h. kept 9 (omega arith) (omega arith) ∙ c.show_byte.ensures.byte ∙ ap signed_byte c.one.ensures;
      unsigned = λ h. kept 10 (omega arith) (omega arith) ∙ c.show_byte.ensures.unsigned ∙ c.one.ensures;
      pair = λ h. c.show_pair.ensures.pair (slice_index bytes 0) (slice_index bytes 1) c.two.ensures.low c.two.ensures.value;
      unsigned_pair = λ h. c.show_pair.ensures.unsigned ∙ c.two.ensures.value;
    }
