-- A board between a source and a sink shows where a run stands; how the run goes on, and where a fault cuts it.
use Rattle.std.specs.Prelude.{◌≡◌, ◌≢◌, ◌⊎◌, ℕ, suc, ◌+◌, ◌<◌, ◌≤◌, ◌==◌, if◌then◌else◌, Bool, true, false, List, [], ◌++◌, Option, Some, None, IfSome, IsSome, is_some, max}
use Rattle.mic_clock.specs.Common.{BusView, Shows, Stands, ChangesOnly, Untaken, LosesLast, IsFault, SinkGoesOn, SourceGoesOn, World, BusFault, ReadFault}
use Rattle.mic_clock.specs.Common.{WriteFault, Rose}
use Rattle.mic_clock.specs.declared.counts.Counts.{Counts}
use Rattle.mic_clock.specs.declared.end.End.{End}
use Rattle.mic_clock.specs.declared.end.End.TheVariants as ends
use Rattle.mic_clock.specs.declared.end.Tick.{Tick}
use Rattle.mic_clock.specs.declared.end.Tick.TheVariants as ticks
use Rattle.mic_clock.specs.Meaning.{Meaning, ReadsConsole, UsesConsole}
use Rattle.mic_clock.specs.Run.{MicroRun, Buses, start_run, number_of, last_cycles, word_at, completes, end_by, end_before, counts_ended, counts_after, turn, turns, bounded, buses, buses_of, IsClocking, IsLeg}
use Rattle.mic_clock.specs.View.{BoardView}

-- no fault ended a board between these two
abbrev pub NoFault : Option End → Option End → Type 0
NoFault None (Some ends.ReadFault) = ⊥
NoFault None (Some ends.WriteFault) = ⊥
NoFault old new = Unit {0}

-- what a cycle returns, by the counts before it, and the counts and the end after it
abbrev pub tick_of : Counts → Counts → Option End → Tick
tick_of old new (Some e) = ticks.Ended e
tick_of old new None = if old.stalls == new.stalls then ticks.Clocked else ticks.Stalled

-- a board ends by a fault only where a count rose, and each count stays otherwise
pub record HasEndCause (source source' sink sink' : ℕ) (end end' : Option End) : Type 0 where
  pub source_later : source ≤ source'
  pub sink_later : sink ≤ sink'
  pub read : end ≡ None → end' ≡ Some ends.ReadFault → Rose source source'
  pub write : end ≡ None → end' ≡ Some ends.WriteFault → Rose sink sink'
  pub source_same : (end ≡ None → end' ≢ Some ends.ReadFault) → source' ≡ source
  pub sink_same : (end ≡ None → end' ≢ Some ends.WriteFault) → sink' ≡ sink

module _ {M State : Type 0} (state : M → State) where
  pub record ShowsRun (left held : Option (List ℕ)) (board : BoardView M) (r : MicroRun State) : Type 0 where
    pub its_state : r.state ≡ state board.machine
    pub world : Shows left held board.bus r.world
    pub counts : r.counts ≡ board.counts
    pub its_end : r.end ≡ board.end

  -- Whatever may be left after a call of a board, something may have been left before it from which each run that it showed is led where the board is now.
  abbrev pub IsLedTo : Option (List ℕ) → Option (List ℕ) → BoardView M → Option (List ℕ) → BoardView M → (MicroRun State → List ℕ → Type 0) → Type 0
  IsLedTo left held board left' board' leads =
      (rest : List ℕ) → Untaken left' board'.bus.console.ended rest →
      (untaken : List ℕ) × Untaken left board.bus.console.ended untaken ×
      ((r : MicroRun State) → ShowsRun left held board r → r.world.untaken ≡ untaken → leads r rest)

  -- after a call that takes no input, each run that the first board showed is this run on the second
  abbrev pub ShowsAs : Option (List ℕ) → BoardView M → Option (List ℕ) → BoardView M → (MicroRun State → MicroRun State) → Type 0
  ShowsAs held board held' board' run_of =
      (left : Option (List ℕ)) (r : MicroRun State) → ShowsRun left held board r → ShowsRun left held' board' (run_of r)

  module _ (m : Meaning State) where
    -- a board is at an instruction boundary
    abbrev pub IsAtBoundary : BoardView M → Type 0
    IsAtBoundary board = m.is_boundary (state board.machine) ≡ true

    -- if a board is at a boundary, its cycles are below the bound
    abbrev pub IsBelow : ℕ → BoardView M → Type 0
    IsBelow bound board = IsAtBoundary board → board.counts.cycles < bound

    -- over whatever world a bus shows, a board shows the run at its reset there
    abbrev pub IsReset : ℕ → ℕ → BusView → BoardView M → Type 0
    IsReset first sp bus board = (left held : Option (List ℕ)) (w : World) → Shows left held bus w → ShowsRun left held board (start_run m first sp w)

    -- A fault stopped a cycle: all is as it was, except for what a bus leaves after an Err. The microstep is not refused, and uses the console.
    pub record IsCut (left held : Option (List ℕ)) (board : BoardView M) (left' held' : Option (List ℕ)) (board' : BoardView M) (e : BusFault) : Type 0 where
      pub its_state : state board'.machine ≡ state board.machine
      pub counts : board'.counts ≡ board.counts
      pub buses : board'.buses ≡ board.buses
      pub world : Stands left held board.bus left' held' board'.bus e
      pub no_end : end_before m (state board.machine) board.counts ≡ None
      pub reads : e ≡ ReadFault → (w : World) → Shows left held board.bus w →
          ReadsConsole m (word_at m board.store.words (state board.machine)) (state board.machine) w
      pub uses : e ≡ WriteFault → (w : World) → Shows left held board.bus w →
          UsesConsole m (word_at m board.store.words (state board.machine)) (state board.machine) w

    module _ (words : List ℕ) (bound : Option ℕ) where
      -- a failing source cut the run: its next step is not refused, and reads the console
      pub record IsCutByRead (left held : Option (List ℕ)) (board : BoardView M) (r : MicroRun State) : Type 0 where
        pub its_state : r.state ≡ state board.machine
        pub world : Shows left held board.bus r.world
        pub counts : r.counts ≡ board.counts
        pub kept : board.bus.console.kept ≡ []
        pub next : IsClocking m words bound r
        pub reads : ReadsConsole m (word_at m words r.state) r.state r.world

      -- A failing sink cut the run: its next step is not refused, and reads or writes the console; or it has ended,
      -- and the last bytes that were given waited. The sink has a front of what was given.
      pub record IsCutByWrite (left held : Option (List ℕ)) (board : BoardView M) (r : MicroRun State) : Type 0 where
        pub its_state : r.state ≡ state board.machine
        pub memory : r.world.words ≡ board.bus.words
        pub untaken : Untaken left board.bus.console.ended r.world.untaken
        pub counts : r.counts ≡ board.counts
        pub kept : board.bus.console.kept ≡ []
        pub front : IfSome held (λ h. (more : List ℕ) × (r.world.given ≡ h ++ more))
        pub next : (IsClocking m words bound r × UsesConsole m (word_at m words r.state) r.state r.world) ⊎ (IsSome r.end × LosesLast held r.world.given)

      -- n turns lead here, with these bytes untaken
      pub record Leads (board : BoardView M) (old : Buses) (rest : List ℕ) (n : ℕ) (r : MicroRun State) (IsHere : MicroRun State → Type 0) : Type 0 where
        pub here : IsHere (turns m words bound n r)
        pub untaken : (turns m words bound n r).world.untaken ≡ rest
        pub buses : board.buses ≡ buses m words bound n r old

    -- A call between two boards over the control store of the first: each run that the first shows, by which the second is reached.
    module _ (left held : Option (List ℕ)) (board : BoardView M) (left' held' : Option (List ℕ)) (board' : BoardView M) where
      -- without a fault, one turn leads to the second
      abbrev pub IsTurned : Option ℕ → Type 0
      IsTurned bound =
          NoFault board.end board'.end → IsLedTo left held board left' board'
          (λ r rest. ShowsRun left' held' board' (turn m board.store.words (bounded m bound r))
          × ((turn m board.store.words (bounded m bound r)).world.untaken ≡ rest))

      -- a fault cuts the cycle
      abbrev pub IsCutByFault : Type 0
      IsCutByFault = (e : BusFault) → board.end ≡ None → IsFault e → board'.end ≡ Some (end_by e) → IsCut left held board left' held' board' e

      -- turns lead to the second
      abbrev pub IsReached : Option ℕ → Type 0
      IsReached bound =
          IsLedTo left held board left' board'
          (λ r rest. (n : ℕ) × Leads board.store.words bound board' board.buses rest n r (ShowsRun left' held' board'))

      -- without a fault, turns lead to the second
      abbrev pub IsRun : Option ℕ → Type 0
      IsRun bound = board.end ≡ None → NoFault None board'.end → IsReached bound

      -- the bound ends the run, and the flush there fails
      abbrev pub BoundIsCutByWrite : ℕ → Type 0
      BoundIsCutByWrite bound =
          board.end ≡ None → board'.end ≡ Some ends.WriteFault → (r : MicroRun State) → ShowsRun left held board r →
          ((bounded m (Some bound) r).end ≡ Some ends.Bound) × IsCutByWrite board.store.words (Some bound) left' held' board' (bounded m (Some bound) r)

      -- a failing source cuts the run after some turns
      abbrev pub RunIsCutByRead : Option ℕ → Type 0
      RunIsCutByRead bound =
          board.end ≡ None → board'.end ≡ Some ends.ReadFault → IsLedTo left held board left' board'
          (λ r rest. (n : ℕ) × Leads board.store.words bound board' board.buses rest n r (IsCutByRead board.store.words bound left' held' board'))

      -- a failing sink cuts the run after some turns
      abbrev pub RunIsCutByWrite : Option ℕ → Type 0
      RunIsCutByWrite bound =
          board.end ≡ None → board'.end ≡ Some ends.WriteFault → IsLedTo left held board left' board'
          (λ r rest. (n : ℕ) × Leads board.store.words bound board' board.buses rest n r (IsCutByWrite board.store.words bound left' held' board'))

      -- without a fault, turns lead to the second with no boundary and no end between them
      abbrev pub IsLegRun : Type 0
      IsLegRun =
          board.end ≡ None → NoFault None board'.end → IsLedTo left held board left' board'
          (λ r rest. (n : ℕ) × IsLeg m board.store.words n r × Leads board.store.words None board' board.buses rest n r (ShowsRun left' held' board'))

      -- a failing source cuts the turn after them
      abbrev pub LegIsCutByRead : Type 0
      LegIsCutByRead =
          board.end ≡ None → board'.end ≡ Some ends.ReadFault → IsLedTo left held board left' board'
          (λ r rest. (n : ℕ) × IsLeg m board.store.words (suc n) r
          × Leads board.store.words None board' board.buses rest n r
          (IsCutByRead board.store.words None left' held' board'))

      -- a failing sink cuts the turn after them
      abbrev pub LegIsCutByWrite : Type 0
      LegIsCutByWrite =
          board.end ≡ None → board'.end ≡ Some ends.WriteFault → IsLedTo left held board left' board'
          (λ r rest. (n : ℕ) × IsLeg m board.store.words (suc n) r
          × Leads board.store.words None board' board.buses rest n r
          (IsCutByWrite board.store.words None left' held' board'))

    -- where turns lead from one board to a second, and on to a third, they lead from the first to the third
    abbrev pub RunsCompose : Type 0
    RunsCompose =
        (left held left' held' left'' held'' : Option (List ℕ)) (bound : Option ℕ) (a b c : BoardView M) → b.store ≡ a.store →
        IsReached left held a left' held' b bound → IsReached left' held' b left'' held'' c bound →
        IsReached left held a left'' held'' c bound

    -- What a turn between two boards counts, also where it is not known what the source has left.
    module _ (board board' : BoardView M) where
      -- an end that comes before a cycle ends the board
      abbrev pub EndsInTime : Type 0
      EndsInTime =
          (e : End) → board.end ≡ None → end_before m (state board.machine) board.counts ≡ Some e →
          (board'.end ≡ Some e) × (board'.counts ≡ counts_ended board.counts e)

      -- a turn that does not end is a counted cycle
      abbrev pub IsCounted : Type 0
      IsCounted =
          board'.end ≡ None → (end_before m (state board.machine) board.counts ≡ None)
          × (board'.counts ≡ counts_after m board.counts
          (m.drives (word_at m board.store.words (state board.machine)) (state board.machine)).stalled
          (state board'.machine))

      -- a clocked cycle changes no memory word but the one at MAR as it is after its edge
      abbrev pub ChangesAtMar : Type 0
      ChangesAtMar = board'.end ≡ None → ChangesOnly (m.registers (state board'.machine)).mar board.bus.words board'.bus.words

      -- the bus values are those of the last clocked cycle
      abbrev pub ShowsBuses : Type 0
      ShowsBuses = board'.buses ≡ buses_of m board.store.words (state board.machine) board.buses board'.end

-- an end counts no cycle and no boundary
abbrev pub EndsUncounted : {M : Type 0} → BoardView M → BoardView M → Type 0
EndsUncounted board board' = IsSome board'.end → (board'.counts.cycles ≡ board.counts.cycles) × (board'.counts.boundary ≡ board.counts.boundary)

-- an end changes no memory word
abbrev pub EndsUnwritten : {M : Type 0} → BoardView M → BoardView M → Type 0
EndsUnwritten board board' = IsSome board'.end → board'.bus.words ≡ board.bus.words

-- a cycle is clocked at most 1,024 cycles past the last boundary
abbrev pub HasRoom : {M : Type 0} → BoardView M → BoardView M → Type 0
HasRoom board board' = board'.end ≡ None → board.counts.cycles < last_cycles board.counts.boundary + 1024

-- the cycles at which a run is adrift, if it comes to no boundary before
abbrev pub IsLimit : Counts → ℕ → Type 0
IsLimit c limit = limit ≡ last_cycles c.boundary + 1024

-- instructions and stalls are at most the cycles, except that an end may complete one more; the last boundary is at most 1,024 cycles back
pub record AreCounts (c : Counts) (end : Option End) : Type 0 where
  pub instructions : c.instructions ≤ c.cycles + number_of (is_some end)
  pub stalls : c.stalls ≤ c.cycles
  pub boundary : last_cycles c.boundary ≤ c.cycles
  pub since : c.cycles ≤ last_cycles c.boundary + 1024

-- at most 1,024 cycles follow cycle `top`, and as many the last boundary
abbrev pub IsNear : ℕ → Counts → Type 0
IsNear top c = (c.cycles ≤ top + 1024) × (c.cycles ≤ last_cycles c.boundary + 1024)

-- At most 1,024 cycles follow the last boundary, which is at cycle `top` or before, unless the board stands there or has ended.
pub record InTime (top : ℕ) (c : Counts) (is_boundary : Bool) (end : Option End) : Type 0 where
  pub cycles : c.cycles ≤ top + 1024
  pub ordered : last_cycles c.boundary ≤ c.cycles
  pub near : c.cycles ≤ last_cycles c.boundary + 1024
  pub last : end ≡ None → (last_cycles c.boundary ≤ top) ⊎ (is_boundary ≡ true)

-- as it was, except for what the console keeps and the end
pub record IsOnlyFlushed {M : Type 0} (board board' : BoardView M) : Type 0 where
  pub same : board' ≡ record board { bus = board'.bus; end = board'.end }
  pub memory : board'.bus.words ≡ board.bus.words
  pub input : board'.bus.console.ended ≡ board.bus.console.ended

-- What every call of a board over a source and a sink leaves of the three: an ended board stays with both, a fault leaves nothing in the
-- console, the control store stays, and a board ends by a fault only where its source or its sink failed.
pub record GoesOn {S K M : Type 0} (left : S → Option (List ℕ)) (source_faults : S → ℕ) (held passed : K → Option (List ℕ)) (sink_faults : K → ℕ)
    (source : S) (sink : K) (board : BoardView M) (source' : S) (sink' : K) (board' : BoardView M) : Type 0 where
  pub ended : (e : End) → board.end ≡ Some e → (board' ≡ board) × (source' ≡ source) × (sink' ≡ sink)
  pub kept : (e : BusFault) → board.end ≡ None → IsFault e → board'.end ≡ Some (end_by e) → board'.bus.console.kept ≡ []
  pub store : board'.store ≡ board.store
  pub source_goes_on : SourceGoesOn left board.bus.console.ended source board'.bus.console.ended source'
  pub sink_goes_on : SinkGoesOn held passed (board'.end ≡ Some ends.WriteFault) sink sink'
  pub cause : HasEndCause (source_faults source) (source_faults source') (sink_faults sink) (sink_faults sink') board.end board'.end

module _ {M State : Type 0} (state : M → State) (m : Meaning State) (board board' : BoardView M) where
  -- What a turn counts and shows, also where it is not known what the source has left.
  pub record IsCountedTurn : Type 0 where
    pub clocked : IsCounted state m board board'
    pub room : HasRoom board board'
    pub still : EndsUncounted board board'
    pub buses : ShowsBuses state m board board'

  -- A turn with this bound keeps the board in time.
  abbrev pub KeepsInTime : ℕ → Type 0
  KeepsInTime bound =
      (top : ℕ) → bound ≤ top → board.end ≡ None → InTime top board.counts (m.is_boundary (state board.machine)) board.end →
      InTime top board'.counts (m.is_boundary (state board'.machine)) board'.end

  -- Turns that do not end come to a boundary after at least one cycle, and none clocks on for more than 1,024 cycles without one.
  pub record ComesInTime : Type 0 where
    pub within : board'.counts.cycles ≤ last_cycles board.counts.boundary + 1024
    pub near : board'.counts.cycles ≤ last_cycles board'.counts.boundary + 1024
    pub ordered : last_cycles board'.counts.boundary ≤ board'.counts.cycles
    pub onward : board.end ≡ None → board'.end ≡ None → board.counts.cycles < board'.counts.cycles
    pub boundary : board'.end ≡ None → m.is_boundary (state board'.machine) ≡ true

-- Turns that need neither a source nor a sink: they lead on between any of them, and end no board.
module _ {M State : Type 0} (state : M → State) (m : Meaning State) (board board' : BoardView M) where
  -- One turn.
  pub record IsTurnedInside : Type 0 where
    pub turned : (left held : Option (List ℕ)) → IsTurned state m left held board left held board' None
    pub counted : IsCountedTurn state m board board'
    pub running : board'.end ≡ None
    pub input : board'.bus.console.ended ≡ board.bus.console.ended
    pub store : board'.store ≡ board.store

  -- Turns under a bound, as many as were done: none, one or more.
  pub record IsRunInside (bound : ℕ) : Type 0 where
    pub reached : (left held : Option (List ℕ)) → IsReached state m left held board left held board' (Some bound)
    pub in_time : KeepsInTime state m board board' bound
    pub later : board.counts.cycles ≤ board'.counts.cycles
    pub within : board'.counts.cycles ≤ max bound board.counts.cycles
    pub running : board'.end ≡ board.end
    pub input : board'.bus.console.ended ≡ board.bus.console.ended
    pub store : board'.store ≡ board.store

-- A board on which nothing was done. The state of its machine is the same; what else the machine keeps may differ.
pub record IsStill {M State : Type 0} (state : M → State) (board board' : BoardView M) : Type 0 where
  pub its_state : state board'.machine ≡ state board.machine
  pub same : board' ≡ record board { machine = board'.machine }

-- HALT and ERR complete an instruction
abbrev pub is_completed : Option End → Bool
is_completed None = false
is_completed (Some e) = completes e

-- A failing sink cut the run. The board has the end that the run came to, and only its last bytes were lost; or the write fault itself, and then the
-- run came to no end that completes an instruction.
pub record IsCutAt {M State : Type 0} (state : M → State) (m : Meaning State) (words : List ℕ) (bound : ℕ)
    (left held : Option (List ℕ)) (board : BoardView M) (r : MicroRun State) : Type 0 where
  pub cut : IsCutByWrite state m words (Some bound) left held board r
  pub its_end : (r.end ≡ board.end) ⊎ ((board.end ≡ Some ends.WriteFault) × (is_completed r.end ≡ false))

-- A turn between two boards, in which a failing sink cut the run.
abbrev pub TurnIsCut : {M State : Type 0} → (M → State) → Meaning State → ℕ → Option (List ℕ) → Option (List ℕ) →
    BoardView M → Option (List ℕ) → Option (List ℕ) → BoardView M → Type 0
TurnIsCut state m bound left held board left' held' board' =
    board.end ≡ None → board'.end ≡ Some ends.WriteFault → IsLedTo state left held board left' board'
    (λ r rest. (n : ℕ) × Leads state m board.store.words (Some bound) board' board.buses rest n r (IsCutAt state m board.store.words bound left' held' board'))
