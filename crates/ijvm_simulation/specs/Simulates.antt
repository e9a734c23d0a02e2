-- That a clocked run is the definition's run: boundary by boundary, with its cycles, and in its end.
use Rattle.std.specs.Prelude.{◌≡◌, ◌≢◌, ℕ, zero, suc, ◌<◌, Bool, true, false, nat_le, List, ◌++◌, Option, Some, None}
use Rattle.ijvm_simulation.specs.Common.{World, Boundary, End, Meaning, MicroRun, turns, RunEnd, State, sp_of, lv_of, StepOutcome, Goes, step_outcome}
use Rattle.ijvm_simulation.specs.Common.{TimedImage, Point, Finish, point_after, EndsBy}
use Rattle.mic_clock.specs.declared.end.End.TheVariants as clocked
use Rattle.ijvm_meaning.specs.declared.run.RunEnd.TheVariants as defined

-- what comes after an outcome, where the run goes on; `more` is the rest of the run
abbrev pub going_on : (Point → Option Point) → TimedImage → Point → StepOutcome → Option Point
going_on more p at (Goes to) = more (point_after p at to)
going_on more p at _ = None

abbrev pub below : (Point → Option Point) → TimedImage → Point → Bool → Option Point
below more p at true = None
below more p at false = going_on more p at (step_outcome p.image p.stack_end at.state)

-- the boundary this many instructions after this one in the definition's run, if it comes so far
abbrev pub nth_point : TimedImage → ℕ → ℕ → Point → Option Point
nth_point p bound zero at = Some at
nth_point p bound (suc i) at = below (nth_point p bound i) p at (nat_le bound at.cycles)

-- this boundary is some number of instructions after that one
abbrev pub IsCounted : TimedImage → ℕ → Point → Point → Type 0
IsCounted p bound from at = (i : ℕ) × (nth_point p bound i from ≡ Some at)

-- a boundary of the definition as the clock counts it
abbrev pub boundary_of : Point → Boundary
boundary_of at = record { cycles = at.cycles; at = at.state.at; sp = sp_of at.state; lv = lv_of at.state }

abbrev pub board_end : RunEnd → End
board_end defined.Halt = clocked.Halt
board_end defined.Err = clocked.Err
board_end defined.Bound = clocked.Bound
board_end defined.StackLimit = clocked.StackLimit

-- `IsAt` says when a machine's state and a world stand for a state of the definition.
module _ {S : Type 0} (IsAt : State → S → World → Type 0) where
  -- a clocked run is at this boundary of the definition's
  pub record IsBoundary (at : Point) (r : MicroRun S) : Type 0 where
    pub stands : IsAt at.state r.state r.world
    pub cycles : r.counts.cycles ≡ at.cycles
    pub instructions : r.counts.instructions ≡ at.instructions
    pub boundary : r.counts.boundary ≡ Some (boundary_of at)
    pub not_ended : r.end ≡ None

-- A clocked run has ended as the definition's, where the bytes in `before` had been given before it began. A stack
-- limit is met inside an instruction, whose cycles are not the definition's.
pub record IsEnd {S : Type 0} (before : List ℕ) (f : Finish) (r : MicroRun S) : Type 0 where
  pub end : r.end ≡ Some (board_end f.end)
  pub cycles : f.end ≢ defined.StackLimit → r.counts.cycles ≡ f.cycles
  pub instructions : r.counts.instructions ≡ f.instructions
  pub boundary : r.counts.boundary ≡ Some (boundary_of f.last)
  pub untaken : r.world.untaken ≡ f.left.untaken
  pub given : r.world.given ≡ before ++ f.left.given

-- The clocked run over this control store from its reset is the definition's run of a program from its first boundary.
pub record Simulates {S : Type 0} (m : Meaning S) (IsAt : State → S → World → Type 0) (words : List ℕ) (bound : ℕ)
    (p : TimedImage) (first : Point) (before : List ℕ) (start : MicroRun S) : Type 0 where
  -- each boundary of the definition's run is one of the clocked run, after its cycles
  pub reaches : (i : ℕ) (at : Point) → nth_point p bound i first ≡ Some at → IsBoundary IsAt at (turns m words (Some bound) at.cycles start)
  -- the clocked run has no other boundary
  pub only : (n : ℕ) → 0 < n → (turns m words (Some bound) n start).end ≡ None → m.is_boundary (turns m words (Some bound) n start).state ≡ true →
      (i : ℕ) × (at : Point) × (nth_point p bound i first ≡ Some at) × (at.cycles ≡ n)
  -- the definition's run ends, and the clocked run as that does
  pub finishes : (f : Finish) × EndsBy p bound first f
  pub ends : (f : Finish) → EndsBy p bound first f → (n : ℕ) × IsEnd before f (turns m words (Some bound) n start)
