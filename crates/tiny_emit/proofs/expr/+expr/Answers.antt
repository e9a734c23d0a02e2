use Rattle.tiny_emit.proofs.Common.{◌∷◌, ◌++◌, [], map, ap, ◌∙◌, on_ok_weaker, arguments_of, expr_tree, code_bytes, places_in}
use Rattle.tiny_emit.proofs.Bytes.{call_bytes, expr_bytes, steps_done, step_bytes, arguments_done, argument_bytes}
use Rattle.tiny_emit.proofs.expr.+expr.Goals as goal

pub put_expr-returns : goal.put_expr-returns
put_expr-returns t c =
    on_ok_weaker c.put_steps.result
    (λ e. expr_bytes (places_in c.args.table.now) c.args.local c.args.bytes.now.items c.put_term.new.bytes.items c.put_steps.new.bytes.items
    c.args.expr.now c.items.result.now c.items.ensures c.in_ok-put_term.ensures e)
    c.put_steps.ensures

pub put_call-returns : goal.put_call-returns
put_call-returns t c =
    on_ok_weaker c.put-2.result
    (λ e. call_bytes (places_in c.args.table.now) c.args.local c.args.bytes.now.items c.put.new.bytes.items c.put_arguments.new.bytes.items
    c.put-2.new.bytes.items c.args.function (arguments_of (map expr_tree c.args.arguments.now)) c.in_ok-call.call c.in_ok-call.ensures
    c.in_ok-put.ensures c.in_ok-put_arguments.ensures e)
    c.put-2.ensures

pub put_arguments-returns : goal.put_arguments-returns
put_arguments-returns t c =
    arguments_done (places_in c.args.table.now) c.args.local _ _ c.args.arguments.now c.loop-argument.argument-index c.loop-argument-test.false
    c.loop-argument.invariant

pub put_steps-returns : goal.put_steps-returns
put_steps-returns t c =
    steps_done (places_in c.args.table.now) c.args.local _ _ c.args.steps.now c.loop-step.step-index c.loop-step-test.false c.loop-step.invariant

pub put_arguments-loop-argument-preserved : goal.put_arguments-loop-argument-preserved
put_arguments-loop-argument-preserved t c =
    argument_bytes (places_in c.args.table.now) c.args.local _ c.loop-argument.bytes.items c.put_expr.new.bytes.items c.args.arguments.now
    c.loop-argument.argument-index c.argument-item.result c.loop-argument-test.true c.argument-item.is c.loop-argument.invariant
    c.in_ok-put_expr.ensures

pub put_steps-loop-step-preserved : goal.put_steps-loop-step-preserved
put_steps-loop-step-preserved t c =
    step_bytes (places_in c.args.table.now) c.args.local _ c.loop-step.bytes.items c.put_term.new.bytes.items c.put.new.bytes.items
    c.args.steps.now c.loop-step.step-index c.step-item.result c.loop-step-test.true c.step-item.is c.loop-step.invariant
    c.in_ok-put_term.ensures (c.in_ok-put.ensures ∙ ap (λ i. c.put_term.new.bytes.items ++ code_bytes (i ∷ [])) c.operator.ensures)
