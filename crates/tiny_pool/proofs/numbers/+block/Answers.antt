use Rattle.tiny_pool.proofs.Common.{◌≡◌, rules, subst, sym, option_map, on_ok_weaker, the_lemmas, else_of, block_tree, cond_tree, statement_tree}
use Rattle.tiny_pool.proofs.Common.{statement_numbers, Adds}
use Rattle.tiny_tree.specs.Tree as tree
use Rattle.tiny_pool.proofs.Walks.{adds_then, goes_on, statement_at}
use Rattle.tiny_pool.proofs.numbers.+block.Goals as goal

pub add_statement-returns-in_ok-add_block-in-If : goal.add_statement-returns-in_ok-add_block-in-If
add_statement-returns-in_ok-add_block-in-If t c =
    let is : statement_tree c.args.statement.now
    ≡ tree.If c.in-If.line (cond_tree c.in-If.cond) (block_tree c.in-If.taken) (else_of (option_map block_tree c.in-If.otherwise)) =
    search (rules, the_lemmas) in
    on_ok_weaker c.add_otherwise.result
    (λ e. subst (λ (s : tree.Statement). Adds c.args.constants.now c.add_otherwise.new.constants (statement_numbers s)) (sym is)
    (adds_then _ _ _ _ _ c.in_ok-add_cond-in-If.ensures (adds_then _ _ _ _ _ c.in_ok-add_block-in-If.ensures e)))
    c.add_otherwise.ensures

pub add_statement-returns-in_ok-add_cond-in-While : goal.add_statement-returns-in_ok-add_cond-in-While
add_statement-returns-in_ok-add_cond-in-While t c =
    let is : statement_tree c.args.statement.now ≡ tree.While c.in-While.line (cond_tree c.in-While.cond) (block_tree c.in-While.body) =
    search (rules, the_lemmas) in
    on_ok_weaker c.add_block-in-While.result
    (λ e. subst (λ (s : tree.Statement). Adds c.args.constants.now c.add_block-in-While.new.constants (statement_numbers s)) (sym is)
    (adds_then _ _ _ _ _ c.in_ok-add_cond-in-While.ensures e))
    c.add_block-in-While.ensures

pub add_block-loop-statement-preserved : goal.add_block-loop-statement-preserved
add_block-loop-statement-preserved t c =
    goes_on _ _ _ _ _ _ _
    (statement_at c.items-statement-items.result.now c.loop-statement.statement-index c.statement-item.result c.loop-statement-test.true c.statement-item.is)
    c.loop-statement.invariant c.in_ok-add_statement.ensures
