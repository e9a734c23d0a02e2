use Rattle.std.proofs.Common.{◌≡◌, replicate, None}
use Rattle.mem_cache.proofs.cached_bus.CachedBus.new.Given as goal

abbrev pub invariant-loop-line : goal.invariant-loop-line
invariant-loop-line l = l.held.items ≡ replicate l._line None
