use Rattle.verifier_locals.proofs.Common.{inl, inr, on_ok_weaker}
use Rattle.verifier_locals.proofs.Traces.{way_below, marks_on}
use Rattle.verifier_locals.proofs.trace.Trace.mark_ways.Goals as goal

pub mark_way-requires : goal.mark_way-requires
mark_way-requires c = way_below c.args.node.next _ (λ to is. c.requires to (inl is))

pub mark_way-requires-2 : goal.mark_way-requires-2
mark_way-requires-2 c = rw c.in_ok-mark_way.ensures.more.long (way_below c.args.node.jump _ (λ to is. c.requires to (inr is)))

pub returns-clause-more : goal.returns-clause-more
returns-clause-more c = on_ok_weaker c.mark_way-2.result (λ g. marks_on _ _ _ _ _ _ _ c.in_ok-mark_way.ensures.more g) c.mark_way-2.ensures.more
