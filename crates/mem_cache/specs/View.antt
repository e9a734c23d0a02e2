-- What contracts see of a cached bus, and what calls of it come to, one after the other.
use Rattle.std.specs.Prelude.{◌≡◌, ℕ, ◌<◌, List, [], ◌∷◌, length, Option, Some, None}
use Rattle.console_port.specs.Prelude.{BusView}
use Rattle.mem_cache.specs.Accesses.{Access, hits_of, misses_of}
use Rattle.mem_cache.specs.Tally.{Tally, counted, empty_tally}

pub record CacheView : Type 0 where
  -- the bus behind the cache
  pub bus : BusView
  pub tally : Tally

-- a call was answered: its access is counted
abbrev pub Counts : Access → CacheView → CacheView → Type 0
Counts access old new = new.tally ≡ counted (length old.bus.words) access old.tally

-- A call leads from one view to another, by an access that was answered; or by none, and then nothing is counted.
abbrev pub Serves : Option Access → CacheView → CacheView → Type 0
Serves None old new = (length new.bus.words ≡ length old.bus.words) × (new.tally ≡ old.tally)
Serves (Some access) old new = (length new.bus.words ≡ length old.bus.words) × Counts access old new

-- each call leads from the view that the one before it left
abbrev pub AllLead : List (Option Access) → CacheView → CacheView → Type 0
AllLead [] old new = new ≡ old
AllLead (call ∷ calls) old new = (between : CacheView) × Serves call old between × AllLead calls between new

-- the accesses that were answered
abbrev pub answered : List (Option Access) → List Access
answered [] = []
answered (None ∷ calls) = answered calls
answered (Some access ∷ calls) = access ∷ answered calls

-- from an empty cache, whatever calls are made of it, its counts are the hits and the misses among the accesses that were answered
abbrev pub CountsAsAccesses : Type 0
CountsAsAccesses =
    (lines : ℕ) (calls : List (Option Access)) (first last : CacheView) → 0 < lines → first.tally ≡ empty_tally lines → AllLead calls first last →
    (last.tally.counts.hits ≡ hits_of lines (length first.bus.words) (answered calls))
    × (last.tally.counts.misses ≡ misses_of lines (length first.bus.words) (answered calls))
