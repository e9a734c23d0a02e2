use Rattle.verifier_reach.proofs.Common.{◌<◌, ◌+◌, ◌∙◌, arith, sym, length, kept_at}
use Rattle.verifier_reach.proofs.Keeping.{reach_in, empties_few, call_inside}
use Rattle.verifier_reach.proofs.search.Search.enter.Goals as goal

pub overflow_add-entry : goal.overflow_add-entry
overflow_add-entry c =
    let lt : c.in-Some.entry + 4 < length c.args.image.now.text =
    call_inside c.args.image.now (kept_at c.args.here c.args.at) c.args.found.row c.args.found.need c.args.index c.in-Some.entry c.requires.checked c.requires.calls (sym c.constant_at.ensures ∙ c.in-Some.is) in
    omega arith

pub arrive-requires-clause-inside : goal.arrive-requires-clause-inside
arrive-requires-clause-inside c =
    call_inside c.args.image.now (kept_at c.args.here c.args.at) c.args.found.row c.args.found.need c.args.index c.in-Some.entry c.requires.checked c.requires.calls (sym c.constant_at.ensures ∙ c.in-Some.is)

pub arrive-requires-clause-reached : goal.arrive-requires-clause-reached
arrive-requires-clause-reached c =
    let constant = sym c.constant_at.ensures ∙ c.in-Some.is in
    reach_in c.args.image.now (kept_at c.args.here c.args.at) c.args.found.row c.args.found.need c.args.index c.in-Some.entry c.requires.reached c.requires.checked c.requires.calls constant
    (call_inside c.args.image.now (kept_at c.args.here c.args.at) c.args.found.row c.args.found.need c.args.index c.in-Some.entry c.requires.checked c.requires.calls constant)

pub arrive-requires-clause-low : goal.arrive-requires-clause-low
arrive-requires-clause-low c = omega (arith, empties_few c.args.self.now.seen.items, c.requires.search.long)
