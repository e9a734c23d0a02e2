use Rattle.std.proofs.Common.{◌≡◌, ◌∙◌, sym, ap, subst, ℕ, List, map, replicate, rules, Option, None}
use Rattle.mem_cache.specs.declared.counts.CacheCounts.{CacheCounts}
use Rattle.mem_cache.specs.declared.lines.CacheLine.{CacheLine}
use Rattle.mem_cache.specs.Prelude.{AreLines, block_in}
use Rattle.mem_cache.proofs.Holding.{empty_lines, empty_blocks}
use Rattle.mem_cache.proofs.cached_bus.CachedBus.new.Goals as goal

pub invariant_of-result : goal.invariant_of-result
invariant_of-result c =
    let is : c.loop-line.held.items ≡ replicate c.args.lines None = search rules in
    subst (λ (ls : List (Option CacheLine)). AreLines c.args.bus.words ls) (sym is)
    (empty_lines c.args.bus.words c.args.lines c.requires.whole c.requires.lines.0 c.requires.lines.1)

pub returns-clause-empty : goal.returns-clause-empty
returns-clause-empty c =
    let is : c.loop-line.held.items ≡ replicate c.args.lines None = search rules in
    let none : CacheCounts = record { hits = 0; misses = 0 } in
    ap (λ (held : List (Option ℕ)). record { held = held; counts = none }) (ap (λ (ls : List (Option CacheLine)). map block_in ls) is ∙ empty_blocks c.args.lines)
