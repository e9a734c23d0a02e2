use Rattle.std.proofs.Common.{arith}
use Rattle.mic_debugger.proofs.Placing.{placed_count}
use Rattle.mic_debugger.proofs.listing.Listing.text.Goals as goal

pub print_statement-requires-clause-below : goal.print_statement-requires-clause-below
print_statement-requires-clause-below c =
    let same = placed_count c.self.inside.program c.self.inside.placement c.self.invariant in
    omega (arith, same, c.in-Some.ensures.inside)
