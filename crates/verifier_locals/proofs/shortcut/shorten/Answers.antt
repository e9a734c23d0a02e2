use Rattle.verifier_locals.proofs.Common.{◌≡◌, Some, length, refl, arith, inl, inr, slice_get, slice_get_read}
use Rattle.verifier_locals.proofs.Shortcuts.{short_ways, short_set}
use Rattle.verifier_locals.proofs.shortcut.shorten.Goals as goal

pub past-next-requires-clause-inside : goal.past-next-requires-clause-inside
past-next-requires-clause-inside c =
    let is : slice_get c.loop-at.short.items c.loop-at.at ≡ Some c.index-node.result.now =
    slice_get_read c.loop-at.short.items (length c.loop-at.short.items) c.loop-at.at c.index-node.result.now refl (omega (arith, c.loop-at.invariant.long)) c.index-node.ensures in
    short_ways c.args.graph.now c.loop-at.short.items c.loop-at.at c.index-node.result.now c.requires.inside c.loop-at.invariant is c.index-node.result.now.next (λ to leads. inl leads)

pub past-jump-requires-clause-inside : goal.past-jump-requires-clause-inside
past-jump-requires-clause-inside c =
    let is : slice_get c.loop-at.short.items c.loop-at.at ≡ Some c.index-node.result.now =
    slice_get_read c.loop-at.short.items (length c.loop-at.short.items) c.loop-at.at c.index-node.result.now refl (omega (arith, c.loop-at.invariant.long)) c.index-node.ensures in
    short_ways c.args.graph.now c.loop-at.short.items c.loop-at.at c.index-node.result.now c.requires.inside c.loop-at.invariant is c.index-node.result.now.jump (λ to leads. inr leads)

pub loop-at-preserved : goal.loop-at-preserved
loop-at-preserved c =
    let is : slice_get c.loop-at.short.items c.loop-at.at ≡ Some c.index-node.result.now =
    slice_get_read c.loop-at.short.items (length c.loop-at.short.items) c.loop-at.at c.index-node.result.now refl (omega (arith, c.loop-at.invariant.long)) c.index-node.ensures in
    short_set c.args.graph.now c.loop-at.short.items c.loop-at.at c.index-node.result.now c.past-next.result c.past-jump.result c.loop-at.invariant is c.past-next.ensures c.past-jump.ensures
