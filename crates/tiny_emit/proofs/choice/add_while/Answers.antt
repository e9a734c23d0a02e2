use Rattle.tiny_emit.proofs.Common.{◌-◌, arith, on_ok_weaker, places_in, cond_tree}
use Rattle.tiny_emit.proofs.Sides.{gone_back, loop_added}
use Rattle.tiny_emit.proofs.choice.add_while.Goals as goal

pub overflow_sub-end : goal.overflow_sub-end
overflow_sub-end c =
    let left = c.in_ok-add_leave.ensures (places_in c.args.table.now) c.args.local in
    omega (arith, c.in_ok-begin.ensures.is, c.in_ok-end.ensures.is, c.in_ok-add_test.ensures.size, left.size, c.in_ok-add_text.ensures.grows)

pub returns : goal.returns
returns c =
    let left = c.in_ok-add_leave.ensures (places_in c.args.table.now) c.args.local in
    let added = c.in_ok-add_text.ensures.adds in
    on_ok_weaker c.add_backward_jump.result
    (λ last a i count body. loop_added c.args.text.now _ _ _ _ (places_in c.args.table.now) c.args.local c.args.line c.in_ok-size.field-0
    (c.in_ok-end.end - c.in_ok-begin.begin) (cond_tree c.args.cond.now) a i c.args.body.now count body c.in_ok-size.ensures.is
    (gone_back c.args.text.now _ _ _ c.args.text.now (places_in c.args.table.now) c.args.local c.args.line c.in_ok-size.field-0
    c.in_ok-begin.begin (cond_tree c.args.cond.now) a i c.in_ok-begin.begin c.in_ok-end.end c.args.body.now body c.in_ok-size.ensures.is
    c.in_ok-begin.ensures.is c.in_ok-end.ensures.is c.in_ok-add_test.ensures left (added _ _ body))
    c.in_ok-add_test.ensures left (added _ _ body) last)
    c.add_backward_jump.ensures
