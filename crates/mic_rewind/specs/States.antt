-- The states between kept cycles, by the memory at a cursor between two of them.
use Rattle.std.specs.Prelude.{◌≡◌, ℕ, List, [], ◌∷◌, Option, Some, None, slice_set}
use Rattle.mic_clock.specs.Prelude.{tick_of}
use Rattle.mic_clock.specs.declared.end.Tick.{Tick}
use Rattle.mic_rewind.specs.declared.kept_cycle.KeptCycle.{KeptCycle}
use Rattle.mic_rewind.specs.declared.moment.Moment.{Moment}
use Rattle.mic_rewind.specs.declared.kept_cycle.WrittenWord.{WrittenWord}

-- where a board stood between two cycles
pub record Snapshot : Type 0 where
  pub moment : Moment
  pub words : List ℕ

-- a clocked cycle, with where it began and where it led
pub record Cycle : Type 0 where
  pub before : Moment
  pub after : Moment
  pub tick : Tick
  pub written : Option WrittenWord

-- a kept cycle that began there
abbrev pub begun : Moment → KeptCycle → Cycle
begun m c = record { before = m; after = c.after; tick = c.tick; written = c.written }

-- kept cycles, the first of which began there
abbrev pub cycles_from : Moment → List KeptCycle → List Cycle
cycles_from m [] = []
cycles_from m (c ∷ cs) = begun m c ∷ cycles_from c.after cs

-- where they led
abbrev pub led_from : Moment → List KeptCycle → Moment
led_from m [] = m
led_from m (c ∷ cs) = led_from c.after cs

-- the words with this one at an address, where there is one
abbrev pub stored : ℕ → Option ℕ → List ℕ → List ℕ
stored at None words = words
stored at (Some word) words = slice_set words at word

-- this moment, after a cycle that left this word at MAR
abbrev pub snapshot_after : Moment → Option ℕ → List ℕ → Snapshot
snapshot_after after word words = record { moment = after; words = stored after.registers.mar word words }

-- the words before a cycle, by those after it
abbrev pub undone : Option WrittenWord → List ℕ → List ℕ
undone None words = words
undone (Some w) words = slice_set words w.at w.old

-- the words after a cycle, by those before it
abbrev pub redone : Option WrittenWord → List ℕ → List ℕ
redone None words = words
redone (Some w) words = slice_set words w.at w.new

-- the words before the first of these cycles, by those after the last
abbrev pub words_before : List Cycle → List ℕ → List ℕ
words_before [] words = words
words_before (c ∷ cs) words = undone c.written (words_before cs words)

-- the moment before the first of these cycles, by the one after the last
abbrev pub moment_before : List Cycle → Moment → Moment
moment_before [] m = m
moment_before (c ∷ cs) m = c.before

-- the states before each of these cycles, by the words after the last
abbrev pub states_before : List Cycle → List ℕ → List Snapshot
states_before [] words = []
states_before (c ∷ cs) words = record { moment = c.before; words = undone c.written (words_before cs words) } ∷ states_before cs words

-- the states after each of these cycles, by the words before the first
abbrev pub states_after : List Cycle → List ℕ → List Snapshot
states_after [] words = []
states_after (c ∷ cs) words = record { moment = c.after; words = redone c.written words } ∷ states_after cs (redone c.written words)

-- a kept cycle led from one moment and memory to another
pub record Fits (c : Cycle) (before after : Moment) (old new : List ℕ) : Type 0 where
  pub before_is : c.before ≡ before
  pub after_is : c.after ≡ after
  pub undoes : undone c.written new ≡ old
  pub redoes : redone c.written old ≡ new
  pub tick : c.tick ≡ tick_of before.counts after.counts None

-- cycles that led one after the other to this moment and these words
abbrev pub LeadTo : List Cycle → Moment → List ℕ → Type 0
LeadTo [] m words = Unit {0}
LeadTo (c ∷ cs) m words = Fits c c.before (moment_before cs m) (undone c.written (words_before cs words)) (words_before cs words) × LeadTo cs m words

-- cycles that led one after the other from there on
abbrev pub LeadFrom : List Cycle → Moment → List ℕ → Type 0
LeadFrom [] m words = Unit {0}
LeadFrom (c ∷ cs) m words = Fits c m c.after words (redone c.written words) × LeadFrom cs c.after (redone c.written words)
