use Rattle.verifier_locals.proofs.Common.{◌≡◌, ◌∙◌, refl, sym, Some, length, slice_get, slice_get_read}
use Rattle.verifier_locals.proofs.Traces.{held_get, held_same, held_other}
use Rattle.verifier_locals.proofs.trace.Trace.held.Goals as goal

pub returns-then-mark-search : goal.returns-then-mark-search
returns-then-mark-search c =
    let is : slice_get c.args.self.now.marks.items c.args.at ≡ Some c.index-mark.result.now = slice_get_read c.args.self.now.marks.items (length c.args.self.now.marks.items) c.args.at c.index-mark.result.now refl c.requires c.index-mark.ensures in
    sym (held_get c.args.search c.args.self.now.marks.items c.args.at c.index-mark.result.now is ∙ held_same c.args.search c.index-mark.result.now c.if-mark-search.true)

pub returns-else-mark-search : goal.returns-else-mark-search
returns-else-mark-search c =
    let is : slice_get c.args.self.now.marks.items c.args.at ≡ Some c.index-mark.result.now = slice_get_read c.args.self.now.marks.items (length c.args.self.now.marks.items) c.args.at c.index-mark.result.now refl c.requires c.index-mark.ensures in
    sym (held_get c.args.search c.args.self.now.marks.items c.args.at c.index-mark.result.now is ∙ held_other c.args.search c.index-mark.result.now c.if-mark-search.false)
