use Rattle.tiny_pool.proofs.Common.{List, ℕ, ap, map, subst, on_ok_weaker, drop_all, Expr, Step, arguments_of, steps_of, expr_tree, step_tree}
use Rattle.tiny_pool.proofs.Common.{arguments_numbers, steps_numbers, Adds}
use Rattle.tiny_pool.proofs.Walks.{adds_then, argument_at, ends, expr_numbers_are, goes_on, starts, step_at}
use Rattle.tiny_pool.proofs.numbers.+expr.Goals as goal

pub add_expr-returns : goal.add_expr-returns
add_expr-returns t c =
    on_ok_weaker c.add_steps.result
    (λ e. subst (λ (ns : List ℕ). Adds c.args.constants.now c.add_steps.new.constants ns)
    (expr_numbers_are c.args.expr.now c.items.result.now c.items.ensures) (adds_then _ _ _ _ _ c.in_ok-add_term.ensures e))
    c.add_steps.ensures

pub add_steps-loop-step-init : goal.add_steps-loop-step-init
add_steps-loop-step-init t c = starts _ _

pub add_steps-loop-step-preserved : goal.add_steps-loop-step-preserved
add_steps-loop-step-preserved t c =
    goes_on _ _ _ _ _ _ _ (step_at c.args.steps.now c.loop-step.step-index c.step-item.result c.loop-step-test.true c.step-item.is)
    c.loop-step.invariant c.in_ok-add_term.ensures

pub add_steps-returns : goal.add_steps-returns
add_steps-returns t c =
    ends _ _ _ _ (ap (λ (l : List Step). steps_numbers (steps_of (map step_tree l))) (drop_all c.loop-step.step-index c.args.steps.now c.loop-step-test.false))
    c.loop-step.invariant

pub add_arguments-loop-argument-init : goal.add_arguments-loop-argument-init
add_arguments-loop-argument-init t c = starts _ _

pub add_arguments-loop-argument-preserved : goal.add_arguments-loop-argument-preserved
add_arguments-loop-argument-preserved t c =
    goes_on _ _ _ _ _ _ _
    (argument_at c.args.arguments.now c.loop-argument.argument-index c.argument-item.result c.loop-argument-test.true c.argument-item.is)
    c.loop-argument.invariant c.in_ok-add_expr.ensures

pub add_arguments-returns : goal.add_arguments-returns
add_arguments-returns t c =
    ends _ _ _ _
    (ap (λ (l : List Expr). arguments_numbers (arguments_of (map expr_tree l)))
    (drop_all c.loop-argument.argument-index c.args.arguments.now c.loop-argument-test.false))
    c.loop-argument.invariant
