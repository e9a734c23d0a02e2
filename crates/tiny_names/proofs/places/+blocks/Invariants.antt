use Rattle.tiny_names.proofs.Common.{◌≡◌, map, take, statement_tree, lookup, statement}
use Rattle.tiny_draft.specs.View as draft_view
use Rattle.tiny_names.proofs.places.+blocks.Given as goal

abbrev pub invariant-block-loop-one : goal.invariant-block-loop-one
invariant-block-loop-one l =
    map statement_tree l.found ≡ map (statement (lookup l.functions) l.names) (map draft_view.statement_tree (take l.one-index l.written_statements))
