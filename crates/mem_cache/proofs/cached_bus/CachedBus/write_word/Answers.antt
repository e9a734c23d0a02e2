use Rattle.std.proofs.Common.{◌≡◌, ◌∙◌, sym, ap, subst, ℕ, List, length, map, rules, Some, None}
use Rattle.console_port.specs.Prelude.{BusView, write_refusal}
use Rattle.mem_cache.specs.Prelude.{AreLines, block_in, CacheView}
use Rattle.mem_cache.proofs.cached_bus.CachedBus.write_word.Goals as goal

pub invariant_of-self : goal.invariant_of-self
invariant_of-self g c =
    let same = (c.in_err-write_word.ensures.err None).words in
    subst (λ (ws : List ℕ). AreLines ws c.self.inside.lines.items) (sym same) c.self.invariant

pub returns-in_err-write_word-clause-map : goal.returns-in_err-write_word-clause-map
returns-in_err-write_word-clause-map g c =
    let h = c.self.inside in
    let bus = ap (λ (v : CacheView). v.bus) c.self.view_is in
    record {
      refused = λ r e.
          let x = c.write_word.ensures.map.refused r (subst (λ (b : BusView). write_refusal (length b.words) c.args.at ≡ Some r) (sym bus) e) in (
            search rules,
            (ap (λ (b : BusView). record { bus = b; tally = record { held = map block_in h.lines.items; counts = h.counts } }) x.1.0 ∙ c.self.view_is, x.1.1),
          );
      allowed = search rules;
      fault = search rules;
    }
