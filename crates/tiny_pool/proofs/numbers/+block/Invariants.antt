use Rattle.tiny_pool.proofs.Common.{drop, map, statements_of, block_tree, statement_tree, statements_numbers}
use Rattle.tiny_pool.proofs.Walks.{IsOnTheWay}
use Rattle.tiny_pool.proofs.numbers.+block.Given as goal

abbrev pub invariant-add_block-loop-statement : goal.invariant-add_block-loop-statement
invariant-add_block-loop-statement l =
    IsOnTheWay l.fn.constants l.constants
    (statements_numbers (statements_of (map statement_tree (drop l.statement-index l.statement-items))))
    (statements_numbers (block_tree l.block))
