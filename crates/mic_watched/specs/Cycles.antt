-- What a clocked cycle shows, and the cycles that the turns of a run show.
use Rattle.std.specs.Prelude.{ℕ, zero, suc, ◌==◌, if◌then◌else◌, List, [], ◌∷◌, ◌++◌, Option, Some, None}
use Rattle.mic_clock.specs.declared.counts.Boundary.{Boundary}
use Rattle.mic_clock.specs.declared.counts.Counts.{Counts}
use Rattle.mic_clock.specs.declared.end.End.{End}
use Rattle.mic_clock.specs.Prelude.{Meaning, MicroRun, word_at, turns, BoardView}
use Rattle.mic_watched.specs.declared.cycle.Cycle.{Cycle}

-- what a turn shows: its cycle, where it does not end the run
abbrev pub shown_where : Option End → Cycle → List Cycle
shown_where (Some e) cycle = []
shown_where None cycle = cycle ∷ []

module _ {State : Type 0} (m : Meaning State) (words : List ℕ) where
  -- the address of the instruction at a boundary
  abbrev pub boundary_of : State → Option ℕ
  boundary_of s = if m.is_boundary s then Some (m.address s) else None

  -- the cycle that led from one state to another, with these counts after it
  abbrev pub cycle_between : State → State → Counts → Cycle
  cycle_between s s' counts =
      record {
        mpc = (m.registers s).mpc;
        drive = m.drives (word_at m words s) s;
        computed = m.computes (word_at m words s) s;
        counts = counts;
        registers = m.registers s';
        boundary = boundary_of s';
      }

  abbrev pub shown : MicroRun State → MicroRun State → List Cycle
  shown r q = shown_where q.end (cycle_between r.state q.state q.counts)

  -- the cycles of this many turns, each with the test of the bound before it where one is tested
  abbrev pub cycles_of : Option ℕ → ℕ → MicroRun State → List Cycle
  cycles_of bound zero r = []
  cycles_of bound (suc n) r = cycles_of bound n r ++ shown (turns m words bound n r) (turns m words bound (suc n) r)

-- the address of the last boundary, where no cycle was clocked after it
abbrev pub boundary_at : Option Boundary → ℕ → Option ℕ
boundary_at None cycles = None
boundary_at (Some b) cycles = if b.cycles == cycles then Some b.at else None

abbrev pub boundary_in : Counts → Option ℕ
boundary_in c = boundary_at c.boundary c.cycles

-- what the last cycle of a board showed, whose word stands at this address
abbrev pub cycle_on : {M State : Type 0} → (M → State) → Meaning State → ℕ → BoardView M → Cycle
cycle_on state m mpc board =
    record {
      mpc = mpc;
      drive = board.buses.drive;
      computed = board.buses.computed;
      counts = board.counts;
      registers = m.registers (state board.machine);
      boundary = boundary_in board.counts;
    }

-- the last cycle of a board, where it did not end the board
abbrev pub shown_on : {M State : Type 0} → (M → State) → Meaning State → ℕ → BoardView M → List Cycle
shown_on state m mpc board = shown_where board.end (cycle_on state m mpc board)
