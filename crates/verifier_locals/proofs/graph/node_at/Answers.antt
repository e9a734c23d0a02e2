use Rattle.verifier_locals.proofs.Common.{◌≡◌, ◌∙◌, arith, sym, ap, Some, None, slice_get, slice_get-get_or, HasRow}
use Rattle.verifier_locals.proofs.Graphs.{node_here, node_nowhere}
use Rattle.verifier_locals.proofs.graph.node_at.Goals as goal

pub node_of-requires : goal.node_of-requires
node_of-requires c = rw c.row.ensures (omega (arith, c.in-Some-decode.ensures.whole.1, c.requires.long))

pub returns-in-None : goal.returns-in-None
returns-in-None c =
    let is : slice_get c.args.seen.now c.args.at ≡ Some None = slice_get-get_or c.args.seen.now c.args.at None (omega (arith, c.requires.closed.long)) ∙ ap Some c.in-None.is in
    node_nowhere c.args.image.now c.args.seen.now c.args.at is

pub returns-in-Some-decode : goal.returns-in-Some-decode
returns-in-Some-decode c =
    let is : slice_get c.args.seen.now c.args.at ≡ Some (Some c.in-Some.field-0) = slice_get-get_or c.args.seen.now c.args.at None (omega (arith, c.requires.closed.long)) ∙ ap Some c.in-Some.is in
    let has : HasRow c.args.image.now.text c.args.at c.row.result = (c.in-Some-decode.instr, sym c.decode.ensures.is ∙ c.in-Some-decode.is, c.row.ensures) in
    node_here c.args.image.now c.args.seen.now c.args.at c.in-Some.field-0 c.row.result c.node_of.result c.requires.closed is has c.node_of.ensures
