use Rattle.tiny_pool.proofs.Common.{List, ap, map, flat_map, drop_all, Function, function_tree, function_numbers}
use Rattle.tiny_pool.proofs.Walks.{ends, function_at, goes_on, starts}
use Rattle.tiny_pool.proofs.numbers.add_functions.Goals as goal

pub loop-function-init : goal.loop-function-init
loop-function-init c = starts _ _

pub loop-function-preserved : goal.loop-function-preserved
loop-function-preserved c =
    goes_on _ _ _ _ _ _ _
    (function_at c.args.functions.now c.loop-function.function-index c.function-item.result c.loop-function-test.true c.function-item.is)
    c.loop-function.invariant c.in_ok-add_block.ensures

pub returns : goal.returns
returns c =
    ends _ _ _ _
    (ap (λ (l : List Function). flat_map function_numbers (map function_tree l))
    (drop_all c.loop-function.function-index c.args.functions.now c.loop-function-test.false))
    c.loop-function.invariant
