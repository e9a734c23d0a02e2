-- What clauses see of a rewind, and how its calls change that.
use Rattle.std.specs.Prelude.{◌≡◌, ◌<◌, ℕ, List, [], ◌∷◌, Option, None, IsSome, Result, IfErr}
use Rattle.console_port.specs.declared.fault.BusFault.{BusFault}
use Rattle.console_port.specs.Prelude.{Stands, BusView}
use Rattle.mic_clock.specs.Prelude.{ShowsRun, IsTurned, IsCutByFault, tick_of, Meaning, MicroRun, BoardView}
use Rattle.mic_clock.specs.declared.end.Tick.{Tick}
use Rattle.mic_rewind.specs.declared.moment.Moment.{Moment}
use Rattle.mic_rewind.specs.States.{Snapshot}
use Rattle.mic_rewind.specs.View.{HistoryView, GoesBack, appended}

pub record RewindView (M : Type 0) : Type 0 where
  pub board : BoardView M
  pub history : HistoryView

-- where a flush fails, the bus stands for what it stood for, whatever the source may have left
abbrev pub StandsOnErr : {K : Type 0} → (K → Option (List ℕ)) → K → BusView → K → BusView → Result Unit BusFault → Type 0
StandsOnErr held sink bus sink' bus' result = (left : Option (List ℕ)) → IfErr result (Stands left (held sink) bus left (held sink') bus')

-- the last of a state and those after it
abbrev pub last_of : Snapshot → List Snapshot → Snapshot
last_of s [] = s
last_of s (t ∷ ts) = last_of t ts

-- the newest state that is kept
abbrev pub newest : HistoryView → Snapshot
newest h = last_of h.here h.after

-- MPC is an address of the control store
abbrev pub HasAddress : Snapshot → Type 0
HasAddress s = s.moment.registers.mpc < 512

abbrev pub HaveAddresses : List Snapshot → Type 0
HaveAddresses [] = Unit {0}
HaveAddresses (s ∷ ss) = HasAddress s × HaveAddresses ss

-- The cursor went on over a kept cycle, and its tick is returned: the board stays, with its source and its sink.
pub record MovesOn {S K M : Type 0} (source : S) (sink : K) (old : RewindView M) (source' : S) (sink' : K) (new : RewindView M) (answer : Tick) : Type 0 where
  pub went : GoesBack new.history old.history
  pub tick : answer ≡ tick_of old.history.here.moment.counts new.history.here.moment.counts None
  pub board : new.board ≡ old.board
  pub source_same : source' ≡ source
  pub sink_same : sink' ≡ sink

module _ {M State : Type 0} (state : M → State) (m : Meaning State) where
  -- where a board stands
  abbrev pub moment_of : BoardView M → Moment
  moment_of board = record { registers = m.registers (state board.machine); counts = board.counts }

  abbrev pub state_of : BoardView M → Snapshot
  state_of board = record { moment = moment_of board; words = board.bus.words }

  -- where a run stands between two turns
  abbrev pub snapshot_of : MicroRun State → Snapshot
  snapshot_of r = record { moment = record { registers = m.registers r.state; counts = r.counts }; words = r.world.words }

  -- the state that is kept of a board is that of each run that the board shows
  abbrev pub KeepsStatesOfRuns : Type 0
  KeepsStatesOfRuns =
      (left held : Option (List ℕ)) (board : BoardView M) (r : MicroRun State) → ShowsRun state left held board r → state_of board ≡ snapshot_of r

  -- A board that was clocked appends the state where it stands now; one that ended keeps what there was.
  pub record Keeps (old new : RewindView M) : Type 0 where
    pub clocked : new.board.end ≡ None → new.history ≡ appended old.history (state_of new.board)
    pub ended : IsSome new.board.end → new.history ≡ old.history

  -- The board made a turn, with the cursor at it: where that led, what the board returned, and what is kept of it.
  pub record ClocksOn {S K : Type 0} (left : S → Option (List ℕ)) (held : K → Option (List ℕ))
      (source : S) (sink : K) (old : RewindView M) (source' : S) (sink' : K) (new : RewindView M) (answer : Tick) : Type 0 where
    pub turn : IsTurned state m (left source) (held sink) old.board (left source') (held sink') new.board None
    pub cut : IsCutByFault state m (left source) (held sink) old.board (left source') (held sink') new.board
    pub tick : answer ≡ tick_of old.board.counts new.board.counts new.board.end
    pub keeps : Keeps old new

  -- The newest state is where the board stands; after an end, it has the board's memory. MPC is an address in each state.
  pub record IsRewind (board : BoardView M) (h : HistoryView) : Type 0 where
    pub words : (newest h).words ≡ board.bus.words
    pub moment : board.end ≡ None → (newest h).moment ≡ moment_of board
    pub before : HaveAddresses h.before
    pub here : HasAddress h.here
    pub after : HaveAddresses h.after
