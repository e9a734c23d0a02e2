use Rattle.std.proofs.Common.{◌≡◌, ap, subst, length}
use Rattle.console_port.specs.Prelude.{IsByMap, IsFault, read_refusal, BusView}
use Rattle.mem_cache.specs.Prelude.{CacheView}
use Rattle.mem_cache.proofs.cached_bus.CachedBus.read_word.Goals as goal

pub returns-then-not-has-clause-map : goal.returns-then-not-has-clause-map
returns-then-not-has-clause-map g c =
    subst (λ (b : BusView). IsByMap (read_refusal (length b.words) c.args.at) c.args.at
    ((c.read_word.new.self ≡ b) × (c.read_word.new.source ≡ c.args.source.now) × (c.read_word.new.sink ≡ c.args.sink.now)) IsFault c.read_word.result)
    (ap (λ (v : CacheView). v.bus) c.self.view_is) c.read_word.ensures.map
