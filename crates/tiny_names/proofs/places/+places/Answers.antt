use Rattle.tiny_names.proofs.Common.{◌∙◌, ap, sym, map, take_all, arguments_of, steps_of, lookup, expr}
use Rattle.tiny_draft.specs.View as draft_view
use Rattle.tiny_names.proofs.ResolvedLists.{arguments_of_map, step_of, steps_of_map}
use Rattle.tiny_names.proofs.places.+places.Goals as goal

pub arguments-returns : goal.arguments-returns
arguments-returns t c =
    let known = lookup c.args.functions.now in
    let names = c.args.names.now in
    let written = c.args.written.now in
    ap arguments_of (c.loop-argument.invariant
    ∙ ap (λ l. map (expr known names) (map draft_view.expr_tree l)) (take_all c.loop-argument.argument-index written c.loop-argument-test.false))
    ∙ sym (arguments_of_map known names (map draft_view.expr_tree written))

pub steps-returns : goal.steps-returns
steps-returns t c =
    let known = lookup c.args.functions.now in
    let names = c.args.names.now in
    let written = c.args.written.now in
    ap steps_of (c.loop-step.invariant
    ∙ ap (λ l. map (step_of known names) (map draft_view.step_tree l)) (take_all c.loop-step.step-index written c.loop-step-test.false))
    ∙ sym (steps_of_map known names (map draft_view.step_tree written))
