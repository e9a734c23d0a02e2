use Rattle.tiny_emit.proofs.Common.{ap, on_ok_weaker, cond_tree}
use Rattle.tiny_emit.proofs.Sides.{leave_equal, leave_less}
use Rattle.tiny_emit.proofs.choice.add_leave.Goals as goal

pub returns-in_ok-add_forward_jump-in-Equal : goal.returns-in_ok-add_forward_jump-in-Equal
returns-in_ok-add_forward_jump-in-Equal c p local =
    on_ok_weaker c.add_forward_jump-in-Equal-2.result
    (λ h. leave_equal p local c.args.line c.args.size _ _ _ (cond_tree c.args.cond.now) _ _ (ap cond_tree c.in-Equal.is)
    c.in_ok-add_forward_jump-in-Equal.ensures h) c.add_forward_jump-in-Equal-2.ensures

pub returns-in_ok-add_forward_jump-in-Less : goal.returns-in_ok-add_forward_jump-in-Less
returns-in_ok-add_forward_jump-in-Less c p local =
    on_ok_weaker c.add_forward_jump-in-Less-2.result
    (λ h. leave_less p local c.args.line c.args.size _ _ _ (cond_tree c.args.cond.now) _ _ (ap cond_tree c.in-Less.is)
    c.in_ok-add_forward_jump-in-Less.ensures h) c.add_forward_jump-in-Less-2.ensures
