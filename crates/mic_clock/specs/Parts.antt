-- A board in its parts, over which its turns go.
use Rattle.std.specs.Prelude.{◌≡◌, Bool}
use Rattle.mic_clock.specs.Common.{BusView, ControlStore}
use Rattle.mic_clock.specs.declared.counts.Counts.{Counts}
use Rattle.mic_clock.specs.declared.running.Running.{Running}
use Rattle.mic_clock.specs.declared.running.Tally.{Tally}
use Rattle.mic_clock.specs.Meaning.{Meaning}
use Rattle.mic_clock.specs.Rule.{CountsCycle}
use Rattle.mic_clock.specs.Run.{Buses}
use Rattle.mic_clock.specs.View.{BoardView}
use Rattle.mic_clock.specs.Board.{AreCounts, IsLimit, EndsInTime, IsCountedTurn, ChangesAtMar, EndsUnwritten}

-- what the parts count
abbrev pub counts_of : Running → Tally → Counts
counts_of running tally =
    record { cycles = running.cycles; instructions = tally.instructions; stalls = tally.stalls; boundary = tally.boundary }

-- the board that these parts are, where this is what was on its machine's buses
abbrev pub board_of : {M : Type 0} → (M → Buses) → M → ControlStore → BusView → Running → Tally → BoardView M
board_of seen machine store bus running tally =
    record {
      machine = machine;
      store = store;
      bus = bus;
      counts = counts_of running tally;
      end = running.end;
      buses = seen machine;
    }

-- a clocked cycle that comes to this state counts in the parts
abbrev pub CountsOn : {State : Type 0} → Meaning State → Running → Tally → Bool → State → Running → Tally → Type 0
CountsOn m running tally stalled s running' tally' = CountsCycle m (counts_of running tally) stalled s (counts_of running' tally')

-- The parts of a board: the store is one of its machine's kind, and the counts are a board's.
pub record AreParts {State : Type 0} (m : Meaning State) (store : ControlStore) (running : Running) (tally : Tally) : Type 0 where
  pub store_machine : store.machine ≡ m.machine
  pub counts : AreCounts (counts_of running tally) running.end
  pub limit : IsLimit (counts_of running tally) tally.limit

-- What a turn counts and writes, also where it is not known what the source has left.
pub record ChangesByTurn {M State : Type 0} (state : M → State) (m : Meaning State) (board board' : BoardView M) : Type 0 where
  pub before : EndsInTime state m board board'
  pub counted : IsCountedTurn state m board board'
  pub at_mar : ChangesAtMar state m board board'
  pub unwritten : EndsUnwritten board board'
