use Rattle.cli_micro.specs.Prelude.{statement_line}
use Rattle.cli_micro.proofs.Lined.{line_added_after, nothing_added}
use Rattle.cli_micro.proofs.placing.add_statements.Goals as goal

pub loop-s-init : goal.loop-s-init
loop-s-init c = nothing_added (statement_line c.args.program.now c.args.placement.now c.args.store.now) c.args.text.now.items

pub loop-s-preserved : goal.loop-s-preserved
loop-s-preserved c =
    line_added_after (statement_line c.args.program.now c.args.placement.now c.args.store.now) c.loop-s.s c.args.text.now.items c.loop-s.text.items
    c.add_line.new.text.items c.statement_line.result c.loop-s.invariant c.statement_line.ensures c.in_ok-add_line.ensures
