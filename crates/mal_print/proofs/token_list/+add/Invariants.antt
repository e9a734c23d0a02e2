use Rattle.std.proofs.Common.{length}
use Rattle.mal_print.proofs.token_list.+add.Given as goal

abbrev pub decreases-add : goal.decreases-add
decreases-add l = length l.more.now
