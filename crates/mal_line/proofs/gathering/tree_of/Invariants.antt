use Rattle.std.proofs.Common.{◌≡◌, length}
use Rattle.mal_line.specs.Prelude.{pieces, adds, tree_of}
use Rattle.mal_line.proofs.gathering.tree_of.Given as goal

abbrev pub invariant-loop-following : goal.invariant-loop-following
invariant-loop-following l = adds l.machine l.gathered (pieces l.rest) ≡ tree_of l.machine l.tokens

abbrev pub decreases-loop-following : goal.decreases-loop-following
decreases-loop-following l = length l.rest
