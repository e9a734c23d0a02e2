use Rattle.tiny_emit.proofs.Common.{on_ok_weaker, test_code, test_lined, places_in, cond_tree, jump_of}
use Rattle.tiny_emit.proofs.Sides.{choice_added}
use Rattle.tiny_emit.proofs.choice.add_choice.Goals as goal

pub returns : goal.returns
returns c =
    on_ok_weaker c.add_text-2.result
    (λ last a b i j count first second. choice_added _ _ _ _ _ _ (test_code (places_in c.args.table.now) c.args.local (cond_tree c.args.cond.now))
    c.jump_of.result (jump_of (cond_tree c.args.cond.now)) c.jump_of.ensures c.args.line c.in_ok-size.field-0 c.in_ok-size-2.field-0 a b i j
    (test_lined (places_in c.args.table.now) c.args.local (cond_tree c.args.cond.now)) count c.args.first.now c.args.second.now first second c.in_ok-size.ensures.is c.in_ok-size-2.ensures.is
    c.in_ok-add_test.ensures c.in_ok-add_forward_jump.ensures (c.in_ok-add_text.ensures.adds _ _ first) c.in_ok-add_forward_jump-2.ensures (last _ _ second))
    c.add_text-2.ensures.adds
