-- The words of this crate, for those that use it.
pub use Rattle.mem_cache.specs.Accesses.{Access, Fetch, Read, Write, asks_for, blocks_of, hits_after, hits_of, is_block, is_hit, last_on, misses_after, misses_of, with_block}
pub use Rattle.mem_cache.specs.Lines.{AreLines, HasWords, block_in}
pub use Rattle.mem_cache.specs.Tally.{Tally, after_asking, after_hit, after_miss, counted, empty_tally, has_block}
pub use Rattle.mem_cache.specs.View.{AllLead, CacheView, Counts, answered}
