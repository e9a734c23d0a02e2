-- Where a session stands, and what a line does there: the definition of rewinding.
use Rattle.std.specs.Prelude.{◌≡◌, ◌<◌, ◌≤◌, ℕ, zero, suc, ◌+◌, ◌-◌, min, max, nat_le, List, [], ◌∷◌, Option, Some, None, Result, Ok, Err}
use Rattle.cli_rewind.specs.Common.{End, Meaning, UsesConsole, MicroRun, turns, word_at, ShowsRun, Snapshot, HistoryView, RewindView, snapshot_of, Command}
use Rattle.cli_rewind.specs.Common.{CommandError, OnlyGives, IsFrontOf, state_text, word_line, GotInPart}
use Rattle.cli_rewind.specs.declared.table.Verb.{Verb}
use Rattle.cli_rewind.specs.declared.table.Verb.TheVariants as verbs
use Rattle.cli_rewind.specs.Commands.{command_of}
use Rattle.cli_rewind.specs.Lines.{back_text, forward_text, refusal_text}

-- the one run at its reset, how many of its cycles were clocked, and after how many the cursor stands
pub record Stand (State : Type 0) : Type 0 where
  pub start : MicroRun State
  pub clocked : ℕ
  pub cursor : ℕ

-- before the first line nothing is clocked, and the cursor is at the reset
abbrev pub at_reset : {State : Type 0} → MicroRun State → Stand State
at_reset r = record { start = r; clocked = 0; cursor = 0 }

-- a line was read as this command
abbrev pub as_read : Verb → ℕ → Result (Option (Command Verb)) CommandError
as_read verb number = Ok (Some (record { verb = verb; number = number }))

-- ---- back, where this many cycles are kept

-- the kept cycles before the cursor: of the last `depth` that were clocked
abbrev pub kept : {State : Type 0} → ℕ → Stand State → ℕ
kept depth s = s.cursor - (s.clocked - depth)

-- n cycles back, or as many as are kept
abbrev pub back : {State : Type 0} → ℕ → ℕ → Stand State → Stand State
back depth n s = record { start = s.start; clocked = s.clocked; cursor = s.cursor - min n (kept depth s) }

-- ---- forward, and what is seen there, over the words of a control store

-- n cycles were asked for, and this many were made: all; or fewer, since the turn after them comes to this end
abbrev pub StopsBy : ℕ → ℕ → Option End → Option End → Type 0
StopsBy n made None next = made ≡ n
StopsBy n made (Some end) next = (made < n) × (next ≡ Some end)

module _ {State : Type 0} (m : Meaning State) (words : List ℕ) where
  -- the run after this many turns
  abbrev pub run_at : MicroRun State → ℕ → MicroRun State
  run_at start n = turns m words None n start

  abbrev pub state_at : MicroRun State → ℕ → Snapshot
  state_at start n = snapshot_of (λ (x : State). x) m (run_at start n)

  -- the state at the cursor
  abbrev pub state_here : Stand State → Snapshot
  state_here s = state_at s.start s.cursor

  -- ---- what a rewind keeps at a stand

  -- the run that a board shows: one that has ended made one more turn than its cycles
  abbrev pub shown_run : Stand State → Option End → MicroRun State
  shown_run s None = run_at s.start s.clocked
  shown_run s (Some end) = run_at s.start (suc s.clocked)

  -- this many states, from this cycle on
  abbrev pub states_from : MicroRun State → ℕ → ℕ → List Snapshot
  states_from start at zero = []
  states_from start at (suc n) = state_at start at ∷ states_from start (suc at) n

  -- the states between the kept cycles
  abbrev pub history_at : ℕ → Stand State → HistoryView
  history_at depth s =
      record {
        before = states_from s.start (s.clocked - depth) (kept depth s);
        here = state_here s;
        after = states_from s.start (suc s.cursor) (s.clocked - s.cursor);
        depth = depth;
      }

  -- n cycles forward, up to an end
  pub record GoesForward (n : ℕ) (end : Option End) (s s' : Stand State) : Type 0 where
    pub start : s'.start ≡ s.start
    pub made : ℕ
    pub cursor : s'.cursor ≡ s.cursor + made
    pub clocked : s'.clocked ≡ max s.clocked s'.cursor
    pub running : (run_at s.start s'.cursor).end ≡ None
    pub stops : StopsBy n made end (run_at s.start (suc s'.cursor)).end

  -- ---- what a line does, where this many cycles are kept

  module _ (depth : ℕ) where
    -- this command, with this number, leads from one stand to the next and prints this text
    abbrev pub Obeys : Verb → ℕ → Stand State → List ℕ → Stand State → Type 0
    Obeys verbs.Micro n s text s' =
        (end : Option End) × GoesForward n end s s' × (text ≡ forward_text end (state_here s').moment)
    Obeys verbs.Back n s text s' =
        (s' ≡ back depth n s) × (text ≡ back_text (nat_le n (kept depth s)) (state_here s').moment)
    Obeys verbs.Word at s text s' = (s' ≡ s) × (text ≡ word_line (state_here s).words at)
    Obeys verbs.Regs n s text s' = (s' ≡ s) × (text ≡ state_text (state_here s).moment.registers)
    Obeys verbs.Quit n s text s' = (s' ≡ s) × (text ≡ [])

    -- a line that was read leads from one stand to the next and prints this text
    abbrev pub Follows : Result (Option (Command Verb)) CommandError → Stand State → List ℕ → Stand State → Type 0
    Follows (Ok (Some c)) s text s' = Obeys c.verb c.number s text s'
    Follows (Ok None) s text s' = (s' ≡ s) × (text ≡ [])
    Follows (Err e) s text s' = (s' ≡ s) × (text ≡ refusal_text e)

    -- a line leads from one stand to the next and prints this text, over a memory of this many words
    abbrev pub Does : ℕ → List ℕ → Stand State → List ℕ → Stand State → Type 0
    Does memory line = Follows (command_of memory line)

  -- ---- what a failing sink leaves of a line

  -- `out` failed in a cycle of n cycles forward, which uses the console: it holds a front of what was given before that, and so of what all give.
  pub record IsCutForward (n : ℕ) (s : Stand State) (held : Option (List ℕ)) : Type 0 where
    pub made : ℕ
    pub mid : Stand State
    pub gone : GoesForward made None s mid
    pub few : made < n
    pub uses : UsesConsole m (word_at m words (run_at mid.start mid.clocked).state) (run_at mid.start mid.clocked).state (run_at mid.start mid.clocked).world
    pub out : IsFrontOf held (run_at mid.start mid.clocked).world.given
    pub whole : OnlyGives m → (end : Option End) (s' : Stand State) → GoesForward n end s s' →
        IsFrontOf held (run_at s'.start s'.clocked).world.given

  abbrev pub IsCutBy : Verb → ℕ → Stand State → Option (List ℕ) → Type 0
  IsCutBy verbs.Micro n = IsCutForward n
  IsCutBy verb n = λ s held. ⊥

  abbrev pub IsCutIn : Result (Option (Command Verb)) CommandError → Stand State → Option (List ℕ) → Type 0
  IsCutIn (Ok (Some c)) = IsCutBy c.verb c.number
  IsCutIn (Ok None) = λ s held. ⊥
  IsCutIn (Err e) = λ s held. ⊥

  pub data IsBrokenOff (depth memory : ℕ) (line : List ℕ) (s : Stand State)
      (held said said' : Option (List ℕ)) : Type 0 where
    -- a cycle was cut, and nothing was printed
    Cut : IsCutIn (command_of memory line) s held → said' ≡ said → IsBrokenOff depth memory line s held said said'
    -- the line was done, and then `out` or `err` failed: they hold fronts of what was given and printed
    Told : (text : List ℕ) (s' : Stand State) → Does depth memory line s text s' →
        IsFrontOf held (run_at s'.start s'.clocked).world.given →
        GotInPart said text said' → IsBrokenOff depth memory line s held said said'

-- A rewind between what its input has left and what `out` holds shows a stand: its states are those of the one run.
pub record StandsAt {M State : Type 0} (state : M → State) (m : Meaning State) (left held : Option (List ℕ))
    (v : RewindView M) (s : Stand State) : Type 0 where
  pub run : ShowsRun state left held v.board (shown_run m v.board.store.words s v.board.end)
  pub running : (run_at m v.board.store.words s.start s.clocked).end ≡ None
  pub history : v.history ≡ history_at m v.board.store.words v.history.depth s
  pub cursor : s.cursor ≤ s.clocked
  pub oldest : s.clocked - v.history.depth ≤ s.cursor
