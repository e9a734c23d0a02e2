-- The definition's run: from boundary to boundary, an instruction each, until it ends.
use Rattle.std.specs.Prelude.{◌≡◌, ◌<◌, ℕ, zero, suc, ◌+◌, Bool, true, false, nat_le, List, Option, Some, None, ◌↔◌}
use Rattle.ijvm_meaning.specs.declared.run.RunEnd.{RunEnd}
use Rattle.ijvm_meaning.specs.declared.run.RunEnd.TheVariants as ends
use Rattle.ijvm_image.specs.Prelude.{ImageView}
use Rattle.ijvm_meaning.specs.Frames.{State, start_of, AreWords}
use Rattle.ijvm_meaning.specs.Step.{StepOutcome, Goes, Halts, Errs, Limits, Stuck, step_outcome}
use Rattle.ijvm_meaning.specs.Cost.{Timing, next_cost}

-- what a run runs: an image, the end of its stack and what is spent on it
pub record TimedImage : Type 0 where
  pub image : ImageView
  pub stack_end : ℕ
  pub timing : Timing

-- a boundary: the state, and the cycles and instructions done
pub record Point : Type 0 where
  pub state : State
  pub cycles : ℕ
  pub instructions : ℕ

-- how a run has ended
pub record Finish : Type 0 where
  pub end : RunEnd
  -- the last boundary
  pub last : Point
  -- the state that is left: the last boundary's, except that an IN that met the stack's end has taken its byte
  pub left : State
  pub cycles : ℕ
  pub instructions : ℕ

abbrev pub first_point : TimedImage → ℕ → List ℕ → Point
first_point p main_locals input = record { state = start_of main_locals input; cycles = p.timing.boot; instructions = 0 }

-- the point after a completed instruction that goes on to this state
abbrev pub point_after : TimedImage → Point → State → Point
point_after p at to = record { state = to; cycles = at.cycles + next_cost p.image p.timing at.state; instructions = at.instructions + 1 }

-- the run ends here, by HALT or ERR
abbrev pub completed : TimedImage → Point → RunEnd → Finish
completed p at end =
    record {
      end = end;
      last = at;
      left = at.state;
      cycles = at.cycles + next_cost p.image p.timing at.state;
      instructions = at.instructions + 1;
    }

-- the run ends here, before an instruction is completed
abbrev pub stopped : Point → RunEnd → State → Finish
stopped at end left = record { end = end; last = at; left = left; cycles = at.cycles; instructions = at.instructions }

-- what follows an outcome; `more` is the rest of the run
abbrev pub after_outcome : (Point → Option Finish) → TimedImage → Point → StepOutcome → Option Finish
after_outcome more p at (Goes to) = more (point_after p at to)
after_outcome more p at Halts = Some (completed p at ends.Halt)
after_outcome more p at Errs = Some (completed p at ends.Err)
after_outcome more p at (Limits left) = Some (stopped at ends.StackLimit left)
after_outcome more p at Stuck = None

-- the bound is examined first
abbrev pub after_test : (Point → Option Finish) → TimedImage → Point → Bool → Option Finish
after_test more p at true = Some (stopped at ends.Bound at.state)
after_test more p at false = after_outcome more p at (step_outcome p.image p.stack_end at.state)

-- The definition of a run's end: where it ends that goes on from this point, if it needs no more than this many points. What follows says the
-- same of ends, boundaries and states: by the law `runs_end_once` a run has one end, at a boundary that it passes.
abbrev pub finish_from : TimedImage → ℕ → ℕ → Point → Option Finish
finish_from p bound zero at = None
finish_from p bound (suc points) at = after_test (finish_from p bound points) p at (nat_le bound at.cycles)

-- the run from this point ends so
abbrev pub EndsBy : TimedImage → ℕ → Point → Finish → Type 0
EndsBy p bound at f = (points : ℕ) × (finish_from p bound points at ≡ Some f)

-- the boundaries that the run from this one passes before it ends
pub data Passes (p : TimedImage) (bound : ℕ) (from : Point) : Point → Type 0 where
  Start : (at : Point) → at ≡ from → Passes p bound from at
  More : (at next : Point) (to : State) → Passes p bound from at → at.cycles < bound →
      step_outcome p.image p.stack_end at.state ≡ Goes to → next ≡ point_after p at to →
      Passes p bound from next

abbrev pub after : (State → Option State) → StepOutcome → Option State
after more (Goes to) = more to
after more Halts = None
after more Errs = None
after more (Limits left) = None
after more Stuck = None

-- the state after this many completed instructions, without a bound
abbrev pub state_after : ImageView → ℕ → ℕ → State → Option State
state_after image stack_end zero s = Some s
state_after image stack_end (suc k) s = after (state_after image stack_end k) (step_outcome image stack_end s)

-- ---- what holds of every run

-- the run from this point has at most one end
abbrev pub EndsOnce : TimedImage → ℕ → Point → Type 0
EndsOnce p bound from = (f g : Finish) → EndsBy p bound from f → EndsBy p bound from g → f ≡ g

-- the run from this point passes the boundary at which it ends
abbrev pub PassesItsEnd : TimedImage → ℕ → Point → Type 0
PassesItsEnd p bound from = (f : Finish) → EndsBy p bound from f → Passes p bound from f.last

-- from a boundary that it passes, the run ends as it does
abbrev pub EndsAlike : TimedImage → ℕ → Point → Point → Type 0
EndsAlike p bound from at = (f : Finish) → Passes p bound from at → EndsBy p bound at f ↔ EndsBy p bound from f

-- some number of completed instructions leads from the one boundary's state to the other's
abbrev pub StepsLead : TimedImage → Point → Point → Type 0
StepsLead p from at = (k : ℕ) × (state_after p.image p.stack_end k from.state ≡ Some at.state)

-- an instruction that goes on leaves words
abbrev pub GoesOnInWords : ImageView → ℕ → State → State → Type 0
GoesOnInWords image stack_end s to = AreWords s → step_outcome image stack_end s ≡ Goes to → AreWords to

-- an instruction that meets the stack's end leaves words
abbrev pub EndsInWords : ImageView → ℕ → State → State → Type 0
EndsInWords image stack_end s left = AreWords s → step_outcome image stack_end s ≡ Limits left → AreWords left

-- each boundary that the run passes has words
abbrev pub PassesInWords : TimedImage → ℕ → ℕ → Type 0
PassesInWords p bound main_locals = (input : List ℕ) (at : Point) → Passes p bound (first_point p main_locals input) at → AreWords at.state
