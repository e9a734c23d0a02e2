-- What contracts see of a history: the states that are kept, with a cursor at one of them.
use Rattle.std.specs.Prelude.{◌≡◌, ◌≤◌, ◌<◌, ℕ, ◌-◌, List, [], ◌∷◌, ◌++◌, length, take, drop}
use Rattle.circular_buffer.specs.Buffer.{Buffer, buffer, keep_last}
use Rattle.mic_rewind.specs.declared.kept_cycle.KeptCycle.{KeptCycle}
use Rattle.mic_rewind.specs.declared.moment.Moment.{Moment}
use Rattle.mic_rewind.specs.States.{Cycle, Snapshot, cycles_from, led_from, states_before, states_after, LeadTo, LeadFrom}

pub record HistoryView : Type 0 where
  -- the states before the cursor's, the oldest first
  pub before : List Snapshot
  pub here : Snapshot
  -- the states after it, up to the newest
  pub after : List Snapshot
  -- the most cycles that are kept
  pub depth : ℕ

-- the whole list
abbrev pub states : HistoryView → List Snapshot
states h = h.before ++ h.here ∷ h.after

-- the cursor went back by one state, and the list stays
pub record GoesBack (old new : HistoryView) : Type 0 where
  pub before : old.before ≡ new.before ++ new.here ∷ []
  pub after : new.after ≡ old.here ∷ old.after
  pub depth : new.depth ≡ old.depth

-- the history of one state, in which this many cycles may be kept
abbrev pub history_of : Snapshot → ℕ → HistoryView
history_of s depth = record { before = []; here = s; after = []; depth = depth }

-- the cursor was at the newest state, and goes on to a new one; the oldest beyond the depth is dropped
abbrev pub appended : HistoryView → Snapshot → HistoryView
appended h s = record { before = keep_last h.depth (h.before ++ h.here ∷ []); here = s; after = []; depth = h.depth }

-- the cursor was at the newest state, and went on to this one
abbrev pub WentOn : HistoryView → Snapshot → HistoryView → Type 0
WentOn old s new = (0 < old.depth) × (old.after ≡ []) × (new ≡ appended old s)

-- How it is kept: the cycles up to the cursor, with this many of them after it.
abbrev pub past : Buffer Cycle → ℕ → List Cycle
past b behind = take (length b.items - behind) b.items

abbrev pub future : Buffer Cycle → ℕ → List Cycle
future b behind = drop (length b.items - behind) b.items

abbrev pub view_of : Buffer Cycle → ℕ → Moment → List ℕ → HistoryView
view_of b behind m words =
    record {
      before = states_before (past b behind) words;
      here = record { moment = m; words = words };
      after = states_after (future b behind) words;
      depth = b.capacity;
    }

pub record IsHistory (b : Buffer Cycle) (behind : ℕ) (m : Moment) (words : List ℕ) : Type 0 where
  pub some : 0 < b.capacity
  pub few : b.capacity ≤ 65536
  pub within : length b.items ≤ b.capacity
  pub cursor : behind ≤ length b.items
  pub led : LeadTo (past b behind) m words
  pub leads : LeadFrom (future b behind) m words

-- the kept cycles, the first of which began there
abbrev pub begun_at : Moment → Buffer KeptCycle → Buffer Cycle
begun_at first b = buffer (cycles_from first b.items) b.capacity

-- where the cycles up to the cursor led
abbrev pub moment_at : Moment → List KeptCycle → ℕ → Moment
moment_at first cs behind = led_from first (take (length cs - behind) cs)

-- what is seen of kept cycles, the first of which began there, and how they are kept
abbrev pub view_from : Moment → Buffer KeptCycle → ℕ → List ℕ → HistoryView
view_from first b behind words = view_of (begun_at first b) behind (moment_at first b.items behind) words

abbrev pub AreKept : Moment → Buffer KeptCycle → ℕ → List ℕ → Type 0
AreKept first b behind words = IsHistory (begun_at first b) behind (moment_at first b.items behind) words

-- how many of a buffer's cycles, the first ones, serve only to tell where the next one began: none, or one
abbrev pub spare : Buffer KeptCycle → ℕ
spare b = length b.items - (b.capacity - 1)

-- the others, which can be gone back over
abbrev pub kept_in : Buffer KeptCycle → Buffer KeptCycle
kept_in b = buffer (drop (spare b) b.items) (b.capacity - 1)

-- where the first of these began, if the first of all began there
abbrev pub first_in : Moment → Buffer KeptCycle → Moment
first_in first b = led_from first (take (spare b) b.items)
