use Rattle.tiny_emit.proofs.Common.{◌≡◌, ◌++◌, drop, map, arguments_of, steps_of, expr_tree, step_tree, code_bytes, places_in, arguments_code, steps_code}
use Rattle.tiny_emit.proofs.expr.+expr.Given as goal

abbrev pub invariant-put_arguments-loop-argument : goal.invariant-put_arguments-loop-argument
invariant-put_arguments-loop-argument l =
    l.fn.bytes.items ++ code_bytes (arguments_code (places_in l.table) l.local (arguments_of (map expr_tree l.arguments)))
    ≡ l.bytes.items ++ code_bytes (arguments_code (places_in l.table) l.local (arguments_of (map expr_tree (drop l.argument-index l.arguments))))

abbrev pub invariant-put_steps-loop-step : goal.invariant-put_steps-loop-step
invariant-put_steps-loop-step l =
    l.fn.bytes.items ++ code_bytes (steps_code (places_in l.table) l.local (steps_of (map step_tree l.steps)))
    ≡ l.bytes.items ++ code_bytes (steps_code (places_in l.table) l.local (steps_of (map step_tree (drop l.step-index l.steps))))
