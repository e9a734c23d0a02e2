use Rattle.mem_cache.proofs.Counting.{tells}
use Rattle.mem_cache.proofs.laws.counts_are_those_of_the_accesses.Goals as goal

pub returns : goal.returns
returns c = λ lines calls first last some empty all. tells lines some calls first last empty all
