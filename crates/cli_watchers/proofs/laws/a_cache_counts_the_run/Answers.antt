use Rattle.cli_watchers.proofs.Caching.{run_counted}
use Rattle.cli_watchers.proofs.laws.a_cache_counts_the_run.Goals as goal

pub returns : goal.returns
returns c = run_counted c.counts_are_those_of_the_accesses.ensures
