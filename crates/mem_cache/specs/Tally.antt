-- What a cache remembers: the block that each line holds, and its counts; and how an access changes that.
use Rattle.std.specs.Prelude.{ℕ, ◌+◌, ◌%◌, if◌then◌else◌, Bool, List, length, replicate, get_or, slice_set, Option, Some, None}
use Rattle.mem_cache.specs.declared.counts.CacheCounts.{CacheCounts}
use Rattle.mem_cache.specs.Accesses.{Access, asks_for, is_block}

pub record Tally : Type 0 where
  -- the block that each line holds, or none
  pub held : List (Option ℕ)
  pub counts : CacheCounts

-- whether the line of a block holds it
abbrev pub has_block : List (Option ℕ) → ℕ → Bool
has_block held block = is_block block (get_or held (block % length held) None)

-- a hit changes no line
abbrev pub after_hit : Tally → Tally
after_hit t = record t { counts = record t.counts { hits = t.counts.hits + 1 } }

-- after a miss the line of the block holds it
abbrev pub after_miss : ℕ → Tally → Tally
after_miss block t =
    record { held = slice_set t.held (block % length t.held) (Some block); counts = record t.counts { misses = t.counts.misses + 1 } }

abbrev pub after_asking : Option ℕ → Tally → Tally
after_asking None t = t
after_asking (Some block) t = if has_block t.held block then after_hit t else after_miss block t

-- after an access that was answered, of a memory of this many words
abbrev pub counted : ℕ → Access → Tally → Tally
counted size access t = after_asking (asks_for size access) t

-- no line holds a block, and nothing is counted
abbrev pub empty_tally : ℕ → Tally
empty_tally lines = record { held = replicate lines None; counts = record { hits = 0; misses = 0 } }
