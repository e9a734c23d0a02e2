use Rattle.std.proofs.Common.{◌≡◌, sym, subst, ◌+◌, ◌/◌, ◌<◌, false, List, length, map, rules, Option, Some}
use Rattle.mem_cache.specs.declared.lines.CacheLine.{CacheLine}
use Rattle.mem_cache.specs.Prelude.{Read, AreLines, HasWords, block_in, has_block, CacheView, Counts}
use Rattle.mem_cache.proofs.Holding.{held_after, missed, whole_block}
use Rattle.mem_cache.proofs.cached_bus.CachedBus.load.Goals as goal

pub returns-clause-counts : goal.returns-clause-counts
returns-clause-counts c =
    let h = c.self.inside in
    let none : has_block (map block_in h.lines.items) (c.args.at / 4) ≡ false = search rules in
    let old : CacheView = record { bus = h.bus; tally = record { held = map block_in h.lines.items; counts = h.counts } } in
    let new : CacheView =
    record { bus = h.bus; tally = record { held = map block_in c.hold.new.lines.items; counts = record h.counts { misses = h.counts.misses + 1 } } } in
    let inside : c.args.at < length h.bus.words = search rules in
    let is : Counts (Read c.args.at) old new =
    missed h.lines.items c.hold.new.lines.items (length h.bus.words) c.args.at c.words_of-words.result h.counts inside none c.hold.ensures in
    subst (λ (v : CacheView). Counts (Read c.args.at) v new) c.self.view_is is

pub invariant_of-self-2 : goal.invariant_of-self-2
invariant_of-self-2 c =
    let h = c.self.inside in
    let line : CacheLine = record { block = c.args.at / 4; words = c.words_of-words.result } in
    let memory : c.args.at < length h.bus.words = search rules in
    let holds : HasWords h.bus.words (Some line) =
    (whole_block h.bus.words c.args.at c.self.invariant.whole memory, c.words_of-words.ensures.len, c.words_of-words.ensures.words) in
    subst (λ (ls : List (Option CacheLine)). AreLines h.bus.words ls) (sym c.hold.ensures) (held_after h.bus.words h.lines.items c.self.invariant line holds)
