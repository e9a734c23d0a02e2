use Rattle.ijvm_verifier.proofs.Common.{◌≡◌, ◌∙◌, ap, arith, Some, None, slice_get, slice_get-get_or}
use Rattle.ijvm_verifier.proofs.Swept.{kept_start, swept_inside, swept_free, code_none, header_none}
use Rattle.ijvm_verifier.proofs.sweep.kind_of.Goals as goal

pub returns-in-Some : goal.returns-in-Some
returns-in-Some c =
    let is : slice_get c.args.seen.now c.args.at ≡ Some (Some c.in-Some.field-0) = slice_get-get_or c.args.seen.now c.args.at None (omega (arith, c.requires.closed.long)) ∙ ap Some c.in-Some.is in
    kept_start c.args.image.now c.args.seen.now c.args.at c.in-Some.field-0 c.requires.closed is

pub returns-then-at-end : goal.returns-then-at-end
returns-then-at-end c = swept_inside c.args.image.now c.args.at c.args.end c.requires.swept c.if-at-end.true

pub returns-else-at-end : goal.returns-else-at-end
returns-else-at-end c =
    let none : slice_get c.args.seen.now c.args.at ≡ Some None = slice_get-get_or c.args.seen.now c.args.at None (omega (arith, c.requires.closed.long)) ∙ ap Some c.in-None.is in
    swept_free c.args.image.now c.args.at c.args.end c.requires.swept c.if-at-end.false (code_none c.args.image.now c.args.seen.now c.args.at c.requires.closed none)
    (header_none c.args.image.now c.args.at (c.is_entry.ensures.no c.if-is_entry.false))
