-- The accesses of a run, in the order of its cycles, and what a cache counts of them.
use Rattle.std.specs.Prelude.{◌≡◌, ℕ, ◌&&◌, ◌++◌, nat_lt, if◌then◌else◌, Bool, false, List, [], ◌∷◌, codes, length, map, slice_get, slice_index, slice_set, unwrap_or}
use Rattle.cli_watchers.specs.Common.{decimal, Machine, Mem, statement_of, Registers, Cycle, kept_of, CacheCounts}
use Rattle.micro_word.specs.declared.statement.Mem.TheVariants as mems
use Rattle.mem_cache.specs.Prelude.{Access, Read, Write, Fetch, hits_of, misses_of, CacheView, Tally, counted, empty_tally}
use Rattle.cli_watchers.specs.declared.cache.CacheWatcher.{CacheWatcher}
use Rattle.cli_watchers.specs.declared.cache.WordAccess.{WordAccess}

-- The accesses of a run.

-- what a word asks of memory
abbrev pub access_in : Machine → ℕ → WordAccess
access_in machine word = record { mem = (statement_of machine word).part.mem; fetch = (statement_of machine word).part.fetch }

-- the write or the read at MAR
abbrev pub at_mar : Mem → ℕ → List Access
at_mar mems.None mar = []
at_mar mems.Read mar = Read mar ∷ []
at_mar mems.Write mar = Write mar ∷ []

-- the fetch at PC
abbrev pub at_pc : Bool → ℕ → List Access
at_pc is_fetched pc = if is_fetched then Fetch pc ∷ [] else []

-- the accesses of a word, with the registers as they are after its edge
abbrev pub accesses_by : WordAccess → Registers → List Access
accesses_by access r = at_mar access.mem r.mar ++ at_pc access.fetch r.pc

-- the accesses of these cycles, clocked with a control store, in order
abbrev pub accesses_of : Machine → List ℕ → List Cycle → List Access
accesses_of machine words [] = []
accesses_of machine words (c ∷ cs) = accesses_by (access_in machine (slice_index words c.mpc)) c.registers ++ accesses_of machine words cs

-- the hits and the misses of accesses, by a cache of this many lines that begins empty, in front of this many words of memory
abbrev pub counts_of : ℕ → ℕ → List Access → CacheCounts
counts_of lines size accesses = record { hits = hits_of lines size accesses; misses = misses_of lines size accesses }

-- `cache lines L hits H misses M`
abbrev pub cache_line : ℕ → CacheCounts → List ℕ
cache_line lines counts =
    codes "cache lines " ++ decimal lines ++ codes " hits " ++ decimal counts.hits ++ codes " misses " ++ decimal counts.misses ++ codes "\n"

-- What a watcher that repeats them keeps.

pub record CacheKept : Type 0 where
  -- what the word at each address asks of memory
  pub accesses : List WordAccess
  -- the memory behind the cache, which has the words of the run's
  pub words : List ℕ
  pub tally : Tally

abbrev pub kept_in : CacheWatcher → CacheKept
kept_in w = record { accesses = w.accesses.items; words = w.cache.bus.words; tally = w.cache.tally }

-- what the word at an address asks of memory
abbrev pub access_at : List WordAccess → ℕ → WordAccess
access_at accesses address = unwrap_or (slice_get accesses address) (record { mem = mems.None; fetch = false })

-- there is room for the counts of a cycle, which no run of the program uses up
abbrev pub has_room : CacheCounts → Bool
has_room counts = nat_lt counts.hits 0x7FFF_FFFF_FFFF_FFFF && nat_lt counts.misses 0x7FFF_FFFF_FFFF_FFFF

-- these accesses are counted, one after the other
abbrev pub all_counted : ℕ → List Access → Tally → Tally
all_counted size [] t = t
all_counted size (access ∷ accesses) t = all_counted size accesses (counted size access t)

-- a cache has counted these accesses
abbrev pub CountsAll : List Access → CacheView → CacheView → Type 0
CountsAll accesses old new = new.tally ≡ all_counted (length old.bus.words) accesses old.tally

-- the words after a word is written at an address, which changes none where memory has no word
abbrev pub after_write : List ℕ → ℕ → ℕ → List ℕ
after_write words at value = if nat_lt at (length words) then slice_set words at value else words

-- the words after the access at MAR
abbrev pub after_access : Mem → ℕ → ℕ → List ℕ → List ℕ
after_access mems.None mar mdr words = words
after_access mems.Read mar mdr words = words
after_access mems.Write mar mdr words = after_write words mar mdr

-- after a cycle: what was written is in the memory, and the accesses are counted
abbrev pub after_cycle : WordAccess → Registers → CacheKept → CacheKept
after_cycle access r k =
    record k { words = after_access access.mem r.mar r.mdr k.words; tally = all_counted (length k.words) (accesses_by access r) k.tally }

abbrev pub kept_after : CacheKept → Cycle → CacheKept
kept_after k c = if has_room k.tally.counts then after_cycle (access_at k.accesses c.mpc) c.registers k else k

-- nothing is printed of a cycle
abbrev pub SaysNothing : CacheKept → Cycle → List ℕ → Type 0
SaysNothing k c text = text ≡ []

-- before the first cycle, with a control store, lines and a memory
abbrev pub start_kept : Machine → List ℕ → ℕ → List ℕ → CacheKept
start_kept machine words lines memory = record { accesses = map (access_in machine) words; words = memory; tally = empty_tally lines }

-- what is kept after these cycles
abbrev pub kept_of_cycles : Machine → List ℕ → ℕ → List ℕ → List Cycle → CacheKept
kept_of_cycles machine words lines memory cs = kept_of kept_after SaysNothing (start_kept machine words lines memory) cs
