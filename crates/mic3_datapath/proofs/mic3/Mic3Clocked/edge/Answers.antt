use Rattle.mic3_datapath.proofs.Common.{sym, edge_waits, over_fails, unrefused}
use Rattle.mic3_datapath.specs.Prelude.{in_operand, mic3_meaning, pipeline_in}
use Rattle.mic3_datapath.proofs.Steps.{asks, edge_done, moved, samples_clear, seen_after}
use Rattle.mic3_datapath.proofs.mic3.Mic3Clocked.edge.Goals as goal

pub returns-clause-seen : goal.returns-clause-seen
returns-clause-seen g c =
    let i = in_operand c.issue-to_issue.result in
    let p = pipeline_in c.args.self.now.pipeline in
    let a = c.in_ok-sampled.ensures.access in
    seen_after c.args.word p _ i c.args.drive c.args.computed c.issue-to_issue.ensures.value c.requires.drives c.requires.computes
    (moved i p _ _ _ (unrefused _ _ c.advance.ensures.err (samples_clear i p _ c.asked-asked.ensures _ _ a.others.0 a.allowed) c.advance.ensures.ok))

pub returns-clause-edge : goal.returns-clause-edge
returns-clause-edge g c =
    let i = in_operand c.issue-to_issue.result in
    let p = pipeline_in c.args.self.now.pipeline in
    let issues = sym c.issue-to_issue.ensures.value in
    let h = c.asked-asked.ensures in
    let a = c.in_ok-sampled.ensures.access in
    record {
      edge =
          edge_done c.args.word i p _ issues h _ _ c.args.bus.now _ _ c.access.new.bus _ a.allowed a.ok a.others _
          (unrefused _ _ c.advance.ensures.err (samples_clear i p _ h _ _ a.others.0 a.allowed) c.advance.ensures.ok);
      waits = edge_waits mic3_meaning c.args.word p _ _ c.args.bus.now _ _ _ (asks c.args.word i p _ issues h) c.console_law.ensures _ _ c.in_ok-sampled.ensures.waits;
    }

pub returns-in_err-sampled-clause-edge : goal.returns-in_err-sampled-clause-edge
returns-in_err-sampled-clause-edge g c =
    let i = in_operand c.issue-to_issue.result in
    let p = pipeline_in c.args.self.now.pipeline in
    over_fails mic3_meaning c.args.word p _ _ _ (asks c.args.word i p _ (sym c.issue-to_issue.ensures.value) c.asked-asked.ensures) c.console_law.ensures
    g.S.Source.left g.K.Sink.held _ c.args.bus.now c.access.new.bus c.args.source.now c.access.new.source c.args.sink.now c.access.new.sink _
    c.from_residual.result c.from_residual.ensures.1 c.in_err-sampled.ensures.access c.in_err-sampled.ensures.waits
