use Rattle.ijvm_verifier.proofs.Common.{◌≡◌, ◌≢◌, ◌∙◌, ℕ, arith, Some, None, Option, ap, slice_get, slice_index_or, slice_get-get_or, Node}
use Rattle.ijvm_verifier.proofs.Swept.{one_unit}
use Rattle.ijvm_verifier.proofs.Counts.{counted_skip, counted_node}
use Rattle.ijvm_verifier.proofs.count.count_at.Goals as goal

no_unit : (u : Option ℕ) (e : ℕ) → u ≡ Some e → u ≢ None
no_unit u e p q = cc

abbrev nowhere : Node
nowhere = record { next = None; jump = None; reads = None; stores = None }

pub returns-in-None-clause-counted : goal.returns-in-None-clause-counted
returns-in-None-clause-counted c =
    let none : slice_get c.args.seen.now c.args.at ≡ Some None = slice_get-get_or c.args.seen.now c.args.at None (omega (arith, c.requires.closed.long)) ∙ ap Some c.in-None.is in
    counted_skip c.args.image.now c.args.seen.now c.args.at c.args.count c.requires.closed c.requires.counted (λ k is unit. cc (none, is))

pub returns-in-Some-unit-clause-counted : goal.returns-in-Some-unit-clause-counted
returns-in-Some-unit-clause-counted c =
    let is : slice_get c.args.seen.now c.args.at ≡ Some (Some c.in-Some.here) = slice_get-get_or c.args.seen.now c.args.at None (omega (arith, c.requires.closed.long)) ∙ ap Some c.in-Some.is in
    counted_skip c.args.image.now c.args.seen.now c.args.at c.args.count c.requires.closed c.requires.counted
    (λ k there unit. no_unit c.in-Some.here.unit _ c.in-Some-unit.is (one_unit c.args.seen.now c.args.at c.in-Some.here k is there ∙ unit))

pub returns-in-None-unit-clause-counted : goal.returns-in-None-unit-clause-counted
returns-in-None-unit-clause-counted c =
    let is : slice_get c.args.seen.now c.args.at ≡ Some (Some c.in-Some.here) = slice_get-get_or c.args.seen.now c.args.at None (omega (arith, c.requires.closed.long)) ∙ ap Some c.in-Some.is in
    let node : slice_get c.args.graph.now c.args.at ≡ Some (slice_index_or c.args.graph.now c.args.at nowhere) = slice_get-get_or c.args.graph.now c.args.at nowhere (omega (arith, c.requires.graph.long)) in
    counted_node c.args.image.now c.args.seen.now c.args.graph.now c.args.at c.args.count c.count_node.result c.in-Some.here _ c.requires.closed c.requires.graph c.requires.counted is c.in-None-unit.is node
    c.count_node.ensures.keeps c.count_node.ensures.above c.count_node.ensures.least
