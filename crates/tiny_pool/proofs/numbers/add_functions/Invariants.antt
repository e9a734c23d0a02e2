use Rattle.tiny_pool.proofs.Common.{drop, map, flat_map, function_tree, function_numbers}
use Rattle.tiny_pool.proofs.Walks.{IsOnTheWay}
use Rattle.tiny_pool.proofs.numbers.add_functions.Given as goal

abbrev pub invariant-loop-function : goal.invariant-loop-function
invariant-loop-function l =
    IsOnTheWay l.fn.constants l.constants (flat_map function_numbers (map function_tree (drop l.function-index l.functions)))
    (flat_map function_numbers (map function_tree l.functions))
