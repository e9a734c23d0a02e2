use Rattle.cli_watchers.proofs.Common.{◌≡◌, map, take, access_in}
use Rattle.cli_watchers.proofs.cache.accesses_in.Given as goal

abbrev pub invariant-loop-address : goal.invariant-loop-address
invariant-loop-address l = l.accesses.items ≡ map (access_in l.machine) (take l.address l.store.words)
