use Rattle.cli_call.proofs.Answering.{ShippedEnd, answered}
use Rattle.cli_call.proofs.answers.each_answer_has_its_cause.Goals as goal

pub returns : goal.returns
returns c =
    let shipped : ShippedEnd = record {
      listed = record { words = c.loaded_programs_are_shipped.ensures.words; entry = c.loaded_programs_are_shipped.ensures.entry };
      mic1 = c.shipped_runs_end_as_defined.ensures;
      mic2 = c.shipped_runs_end_as_defined-2.ensures;
      mic3 = c.shipped_runs_end_as_defined-3.ensures;
    } in
    λ asks old new status. answered shipped old new status asks
