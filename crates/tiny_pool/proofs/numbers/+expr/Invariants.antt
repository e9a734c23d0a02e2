use Rattle.tiny_pool.proofs.Common.{drop, map, arguments_of, steps_of, expr_tree, step_tree, arguments_numbers, steps_numbers}
use Rattle.tiny_pool.proofs.Walks.{IsOnTheWay}
use Rattle.tiny_pool.proofs.numbers.+expr.Given as goal

abbrev pub invariant-add_arguments-loop-argument : goal.invariant-add_arguments-loop-argument
invariant-add_arguments-loop-argument l =
    IsOnTheWay l.fn.constants l.constants (arguments_numbers (arguments_of (map expr_tree (drop l.argument-index l.arguments))))
    (arguments_numbers (arguments_of (map expr_tree l.arguments)))

abbrev pub invariant-add_steps-loop-step : goal.invariant-add_steps-loop-step
invariant-add_steps-loop-step l =
    IsOnTheWay l.fn.constants l.constants (steps_numbers (steps_of (map step_tree (drop l.step-index l.steps))))
    (steps_numbers (steps_of (map step_tree l.steps)))
