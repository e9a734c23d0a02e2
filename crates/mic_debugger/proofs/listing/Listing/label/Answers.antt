use Rattle.std.proofs.Common.{arith}
use Rattle.mic_debugger.proofs.Placing.{placed_count}
use Rattle.mic_debugger.proofs.listing.Listing.label.Goals as goal

pub statement-requires : goal.statement-requires
statement-requires c =
    let same = placed_count c.self.inside.program c.self.inside.placement c.self.invariant in
    omega (arith, same, c.in-Some.ensures.inside)
