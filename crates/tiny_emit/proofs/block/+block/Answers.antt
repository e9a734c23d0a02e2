use Rattle.tiny_emit.proofs.Common.{◌≡◌, rules, subst, sym, option_map, on_ok_weaker, the_lemmas, else_of, block_tree, cond_tree, statement_tree}
use Rattle.tiny_emit.proofs.Common.{statement_code, statement_lines, else_lined, statements_lined, AddsCode, places_in}
use Rattle.tiny_tree.specs.Tree as tree
use Rattle.tiny_emit.proofs.Lists.{statement_added, statements_done}
use Rattle.tiny_emit.proofs.block.+block.Goals as goal

pub add_statement-returns-in_ok-second-in-If : goal.add_statement-returns-in_ok-second-in-If
add_statement-returns-in_ok-second-in-If t c =
    let p = places_in c.args.table.now in
    let local = c.args.local in
    let is : statement_tree c.args.statement.now
    ≡ tree.If c.in-If.line (cond_tree c.in-If.cond) (block_tree c.in-If.taken) (else_of (option_map block_tree c.in-If.otherwise)) =
    search (rules, the_lemmas) in
    on_ok_weaker c.add_if.result
    (λ h. subst (λ (s : tree.Statement). AddsCode c.args.text.now c.add_if.new.text (statement_code p local s) (statement_lines s)) (sym is)
    (h _ _ _ _ (statements_lined p local (block_tree c.in-If.taken)) (else_lined p local (else_of (option_map block_tree c.in-If.otherwise)))
    c.in_ok-first-in-If.ensures c.in_ok-second-in-If.ensures))
    c.add_if.ensures

pub add_statement-returns-in_ok-body-in-While : goal.add_statement-returns-in_ok-body-in-While
add_statement-returns-in_ok-body-in-While t c =
    let p = places_in c.args.table.now in
    let local = c.args.local in
    let is : statement_tree c.args.statement.now ≡ tree.While c.in-While.line (cond_tree c.in-While.cond) (block_tree c.in-While.body) =
    search (rules, the_lemmas) in
    on_ok_weaker c.add_while.result
    (λ h. subst (λ (s : tree.Statement). AddsCode c.args.text.now c.add_while.new.text (statement_code p local s) (statement_lines s)) (sym is)
    (h _ _ (statements_lined p local (block_tree c.in-While.body)) c.in_ok-body-in-While.ensures))
    c.add_while.ensures

pub add_statements-loop-statement-preserved : goal.add_statements-loop-statement-preserved
add_statements-loop-statement-preserved t c end rest =
    c.loop-statement.invariant end
    (statement_added (places_in c.args.table.now) c.args.local _ c.add_statement.new.text end c.args.statements.now
    c.loop-statement.statement-index c.statement-item.result c.loop-statement-test.true c.statement-item.is c.in_ok-add_statement.ensures rest)

pub add_statements-returns : goal.add_statements-returns
add_statements-returns t c =
    c.loop-statement.invariant _
    (statements_done (places_in c.args.table.now) c.args.local c.loop-statement.text c.args.statements.now c.loop-statement.statement-index
    c.loop-statement-test.false)
