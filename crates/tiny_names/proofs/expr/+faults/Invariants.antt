use Rattle.tiny_names.proofs.Common.{◌≡◌, drop, map, argument_faults, expr_faults, first, step_faults, lookup}
use Rattle.tiny_draft.specs.Prelude.{arguments_of, steps_of, expr_tree, step_tree, sum_tree}
use Rattle.tiny_names.proofs.expr.+faults.Given as goal

abbrev pub invariant-argument_fault-loop-argument : goal.invariant-argument_fault-loop-argument
invariant-argument_fault-loop-argument l =
    first (argument_faults (lookup l.functions) l.seen (arguments_of (map expr_tree l.arguments)))
    ≡ first (argument_faults (lookup l.functions) l.seen (arguments_of (map expr_tree (drop l.argument-index l.arguments))))

abbrev pub invariant-sum_fault-loop-step : goal.invariant-sum_fault-loop-step
invariant-sum_fault-loop-step l =
    first (expr_faults (lookup l.functions) l.seen (sum_tree l.sum))
    ≡ first (step_faults (lookup l.functions) l.seen (steps_of (map step_tree (drop l.step-index l.step-items))))
