use Rattle.ijvm_verifier.proofs.Common.{◌≡◌, ◌<◌, ◌+◌, ◌*◌, ◌∙◌, refl, arith, sym, inr, Some, None, ap, slice_get, slice_get-get_or, row_of, size_of, HasRow}
use Rattle.ijvm_verifier.proofs.Common.{Code}
use Rattle.ijvm_verifier.proofs.Swept.{swept_skip, swept_add, swept_clash, code_none, code_only, code_covers}
use Rattle.ijvm_verifier.proofs.sweep.sweep_code.Goals as goal

pub returns-in-None-clause-ok : goal.returns-in-None-clause-ok
returns-in-None-clause-ok c =
    let is : slice_get c.args.seen.now c.args.at ≡ Some None = slice_get-get_or c.args.seen.now c.args.at None (omega (arith, c.requires.closed.long)) ∙ ap Some c.in-None.is in
    swept_skip c.args.image.now (2 * c.args.at) c.args.end c.requires.swept (code_none c.args.image.now c.args.seen.now c.args.at c.requires.closed is)

pub returns-then-at-end-clause-err : goal.returns-then-at-end-clause-err
returns-then-at-end-clause-err c = λ z.
    let is : slice_get c.args.seen.now c.args.at ≡ Some (Some c.in-Some.field-0) = slice_get-get_or c.args.seen.now c.args.at None (omega (arith, c.requires.closed.long)) ∙ ap Some c.in-Some.is in
    let has : HasRow c.args.image.now.text c.args.at (row_of c.in-Some-decode.instr) = (c.in-Some-decode.instr, sym c.decode.ensures.is ∙ c.in-Some-decode.is, refl) in
    let above : 0 < size_of (row_of c.in-Some-decode.instr) = c.in-Some-decode.ensures.whole.0 in
    inr (swept_clash c.args.image.now z (2 * c.args.at) c.args.end c.args.at (Code c.in-Some.field-0.unit c.args.at) c.requires.swept c.if-at-end.true (omega arith) refl
    (code_covers c.args.image.now c.args.seen.now c.args.at c.in-Some.field-0 (row_of c.in-Some-decode.instr) c.requires.closed is has c.args.at (omega arith) (omega arith)))

pub returns-else-at-end-clause-ok : goal.returns-else-at-end-clause-ok
returns-else-at-end-clause-ok c =
    let is : slice_get c.args.seen.now c.args.at ≡ Some (Some c.in-Some.field-0) = slice_get-get_or c.args.seen.now c.args.at None (omega (arith, c.requires.closed.long)) ∙ ap Some c.in-Some.is in
    let has : HasRow c.args.image.now.text c.args.at c.row.result = (c.in-Some-decode.instr, sym c.decode.ensures.is ∙ c.in-Some-decode.is, c.row.ensures) in
    rw c.size.ensures.is (
    swept_add c.args.image.now (2 * c.args.at) c.args.end c.args.at (c.args.at + size_of c.row.result) (Code c.in-Some.field-0.unit c.args.at) c.requires.swept c.if-at-end.false (omega arith) refl
    (omega (arith, c.in-Some-decode.ensures.whole.0, ap size_of c.row.ensures))
    (code_only c.args.image.now c.args.seen.now c.args.at c.in-Some.field-0 c.row.result c.requires.closed is has)
    (code_covers c.args.image.now c.args.seen.now c.args.at c.in-Some.field-0 c.row.result c.requires.closed is has))
