-- How the clocking commands of a session go on in a clocked run, turn by turn, and what they print.
use Rattle.std.specs.Prelude.{◌≡◌, ◌⊎◌, ℕ, zero, suc, ◌+◌, ◌<◌, ◌==◌, ◌&&◌, ◌||◌, Bool, true, false, not, List, [], ◌++◌, Option, Some, None, IsSome, is_some, codes, slice_get, if◌then◌else◌}
use Rattle.mic_debugger.specs.Common.{list_any, Boundary, Counts, End, Registers, Meaning, MicroRun, since, number_of, word_at, turns, Got, GotInPart, end_line}
use Rattle.mic_debugger.specs.declared.until.Until.{Until}
use Rattle.mic_debugger.specs.declared.until.Until.TheVariants as until
use Rattle.mic_debugger.specs.declared.until.Watched.{Watched}
use Rattle.mic_debugger.specs.Book.{Book}
use Rattle.mic_debugger.specs.Lines.{clocked_line, registers_line, place_line, next_line}

-- ---- what is waited for

-- no cycle was clocked since the last boundary
abbrev pub is_at_boundary : Counts → Bool
is_at_boundary c = is_some c.boundary && since c == 0

-- a breakpoint stands at the instruction of a boundary
abbrev pub has_break_at : List ℕ → Option Boundary → Bool
has_break_at breaks None = false
has_break_at breaks (Some b) = list_any (λ a. a == b.at) breaks

abbrev pub has_break : List ℕ → Counts → Bool
has_break breaks c = has_break_at breaks c.boundary

abbrev pub is_other : ℕ → Option ℕ → Bool
is_other value None = false
is_other value (Some now) = not (now == value)

-- the watched word is no longer what it was
abbrev pub has_changed : Option Watched → List ℕ → Bool
has_changed None memory = false
has_changed (Some w) memory = is_other w.value (slice_get memory w.at)

-- whether a turn that led to these counts and this memory is one that is waited for
abbrev pub comes : List ℕ → Until → Counts → List ℕ → Bool
comes breaks until.Cycle c memory = true
comes breaks until.Boundary c memory = is_at_boundary c
comes breaks (until.Cause watched) c memory = is_at_boundary c && (has_break breaks c || has_changed watched memory)

-- 1 where it is waited for and does not end the run, else 0
abbrev pub counted_turn : List ℕ → Until → Counts → List ℕ → Option End → ℕ
counted_turn breaks u c memory (Some e) = 0
counted_turn breaks u c memory None = number_of (comes breaks u c memory)

-- ---- what is printed of a turn

abbrev pub cause_line : List ℕ → Counts → List ℕ
cause_line breaks c = if has_break breaks c then codes "break\n" else codes "watch\n"

module _ (book : Book) (breaks : List ℕ) where
  -- of a turn that is waited for, which began at the word at `mpc`: two pieces
  abbrev pub first_piece : Until → ℕ → Bool → Counts → List ℕ
  first_piece until.Cycle mpc stalled c = clocked_line book c.cycles mpc stalled
  first_piece until.Boundary mpc stalled c = place_line book c
  first_piece (until.Cause watched) mpc stalled c = cause_line breaks c ++ place_line book c

  abbrev pub second_piece : Until → Registers → List ℕ
  second_piece until.Cycle r = registers_line r
  second_piece until.Boundary r = next_line book r.mpc
  second_piece (until.Cause watched) r = next_line book r.mpc

  -- of any turn: at an end the end line
  abbrev pub turn_text : Until → ℕ → Bool → Counts → Registers → List ℕ → Option End → List ℕ
  turn_text u mpc stalled c r memory (Some e) = end_line e
  turn_text u mpc stalled c r memory None = if comes breaks u c memory then first_piece u mpc stalled c ++ second_piece u r else []

-- ---- how a command goes on

module _ {State : Type 0} (m : Meaning State) (book : Book) (words : List ℕ) (breaks : List ℕ) (bound : ℕ) (u : Until) where
  -- the run after this many turns
  abbrev pub after : ℕ → MicroRun State → MicroRun State
  after n r = turns m words (Some bound) n r

  -- what is printed of a turn from one run to the next
  abbrev pub turn_lines : MicroRun State → MicroRun State → List ℕ
  turn_lines r q =
      turn_text book breaks u (m.registers r.state).mpc (m.drives (word_at m words r.state) r.state).stalled q.counts (m.registers q.state) q.world.words q.end

  -- what is printed of this many turns
  abbrev pub printed : ℕ → MicroRun State → List ℕ
  printed zero r = []
  printed (suc n) r = printed n r ++ turn_lines (after n r) (after (suc n) r)

  -- how many of these turns were waited for
  abbrev pub passed : ℕ → MicroRun State → ℕ
  passed zero r = 0
  passed (suc n) r = passed n r + counted_turn breaks u (after (suc n) r).counts (after (suc n) r).world.words (after (suc n) r).end

  -- a command that waits for `times` turns is not done before n turns
  pub record IsGoing (times n : ℕ) (r : MicroRun State) : Type 0 where
    pub running : (k : ℕ) → k < n → (after k r).end ≡ None
    pub waiting : (k : ℕ) → k < n → passed k r < times

  -- the command is done after n turns, and not before
  pub record IsDone (times n : ℕ) (r : MicroRun State) : Type 0 where
    pub going : IsGoing times n r
    pub over : IsSome (after n r).end ⊎ (passed n r ≡ times)

  -- `err` got the lines of all turns but the last whole, and those of the last at least in part: no turn follows one whose lines it got only in part
  abbrev pub IsTold : Option (List ℕ) → Option (List ℕ) → ℕ → MicroRun State → Type 0
  IsTold said said' n r =
      (k : ℕ) → suc k ≡ n → (mid : Option (List ℕ)) × Got said (printed k r) mid × GotInPart mid (turn_lines (after k r) (after n r)) said'
