use Rattle.std.proofs.Common.{length}
use Rattle.mal_print.proofs.assignment.+is_nothing.Given as goal

abbrev pub decreases-is_nothing : goal.decreases-is_nothing
decreases-is_nothing l = length l.words.now
