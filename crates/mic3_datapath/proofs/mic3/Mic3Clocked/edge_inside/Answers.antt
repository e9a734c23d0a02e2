use Rattle.mic3_datapath.proofs.Common.{sym, unrefused}
use Rattle.mic3_datapath.specs.Prelude.{in_operand, pipeline_in}
use Rattle.mic3_datapath.proofs.Steps.{edge_done, moved, samples_clear, seen_after}
use Rattle.mic3_datapath.proofs.mic3.Mic3Clocked.edge_inside.Goals as goal

pub returns-clause-tried : goal.returns-clause-tried
returns-clause-tried c =
    let i = in_operand c.issue-to_issue.result in
    let p = pipeline_in c.args.self.now.pipeline in
    let h = c.asked-asked.ensures in
    let a = c.in-Some.ensures in
    record {
      edge = λ done left held.
          edge_done c.args.word i p _ (sym c.issue-to_issue.ensures.value) h left held c.args.bus.now left held c.access_inside.new.bus _ a.clear (a.access left held) a.others _
          (unrefused _ _ c.advance.ensures.err (samples_clear i p _ h _ _ a.others.0 a.clear) c.advance.ensures.ok);
      ended = c.access_inside.ensures.ended;
      none = λ no. absurd (cc);
    }

pub returns-clause-seen : goal.returns-clause-seen
returns-clause-seen c =
    let i = in_operand c.issue-to_issue.result in
    let p = pipeline_in c.args.self.now.pipeline in
    let a = c.in-Some.ensures in
    λ done.
    seen_after c.args.word p _ i c.args.drive c.args.computed c.issue-to_issue.ensures.value c.requires.drives c.requires.computes
    (moved i p _ _ _ (unrefused _ _ c.advance.ensures.err (samples_clear i p _ c.asked-asked.ensures _ _ a.others.0 a.clear) c.advance.ensures.ok))
