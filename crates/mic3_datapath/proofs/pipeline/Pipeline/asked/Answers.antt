use Rattle.mic3_datapath.proofs.Common.{◌∙◌, ports_given, unit_refusal, unit_samples}
use Rattle.mic3_datapath.specs.Prelude.{retired_in}
use Rattle.mic3_datapath.proofs.pipeline.Pipeline.asked.Goals as goal

pub returns : goal.returns
returns c =
    let l = c.args.self.now in
    let taken = c.bytes_leaving-taken.ensures in
    let jumps = c.jumps_now-jumps.ensures in
    let pc = c.ports-ports.result.pc in
    record {
      given = c.ports-ports.ensures ∙ (λ j. ports_given (retired_in l (taken j)));
      memory = c.mem_in-mem.ensures;
      samples = λ n. c.will_fetch-at.ensures.refusal n ∙ (λ j. unit_refusal (jumps j) n pc (taken j) l.latches.unit);
      its = c.will_fetch-at.ensures.value ∙ (λ j. unit_samples (jumps j) pc (taken j) l.latches.unit);
    }
