use Rattle.cli_micro.proofs.Common.{length, map, below, counts_line, statement_line}
use Rattle.cli_micro.proofs.Lined.{last_added}
use Rattle.cli_micro.proofs.placing.placement_text.Goals as goal

pub returns : goal.returns
returns c =
    last_added (map (statement_line c.args.program.now c.args.placement.now c.args.store.now) (below (length c.args.program.now.statements)))
    (counts_line c.args.program.now) c.new-text.result.items c.add_statements.new.text.items c.add_line.new.text.items c.counts_line.result
    c.new-text.ensures.items c.in_ok-add_statements.ensures c.counts_line.ensures c.in_ok-add_line.ensures
