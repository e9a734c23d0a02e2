use Rattle.tiny_names.proofs.Common.{◌∙◌, map, statement_tree, lookup}
use Rattle.tiny_names.proofs.ResolvedLists.{block_resolved}
use Rattle.tiny_names.proofs.places.+blocks.Goals as goal

pub block-returns : goal.block-returns
block-returns t c = c.new.ensures
    ∙ block_resolved (lookup c.args.functions.now) c.args.names.now c.args.written.now c.items-written_statements.result.now c.loop-one.one-index
    (map statement_tree c.loop-one.found) c.items-written_statements.ensures c.loop-one-test.false c.loop-one.invariant
