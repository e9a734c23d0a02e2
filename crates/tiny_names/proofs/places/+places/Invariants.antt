use Rattle.tiny_names.proofs.Common.{◌≡◌, map, take, expr_tree, step_tree, lookup, expr}
use Rattle.tiny_draft.specs.View as draft_view
use Rattle.tiny_names.proofs.ResolvedLists.{step_of}
use Rattle.tiny_names.proofs.places.+places.Given as goal

abbrev pub invariant-arguments-loop-argument : goal.invariant-arguments-loop-argument
invariant-arguments-loop-argument l =
    map expr_tree l.passed ≡ map (expr (lookup l.functions) l.names) (map draft_view.expr_tree (take l.argument-index l.written))

abbrev pub invariant-steps-loop-step : goal.invariant-steps-loop-step
invariant-steps-loop-step l =
    map step_tree l.found ≡ map (step_of (lookup l.functions) l.names) (map draft_view.step_tree (take l.step-index l.written))
