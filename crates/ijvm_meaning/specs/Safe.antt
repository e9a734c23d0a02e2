-- Runs that never get stuck: no instruction lacks an operand, a constant, a method, a local or a caller, and none is missing.
use Rattle.std.specs.Prelude.{◌≡◌, ◌≢◌, ℕ, []}
use Rattle.ijvm_image.specs.Prelude.{ImageView}
use Rattle.ijvm_meaning.specs.Frames.{State, start_of}
use Rattle.ijvm_meaning.specs.Step.{Goes, Stuck, step_outcome}

-- the same frames at the same address, whatever the console's bytes are
pub record SameFrames (s to : State) : Type 0 where
  pub running : to.running ≡ s.running
  pub callers : to.callers ≡ s.callers
  pub at : to.at ≡ s.at

-- a run from the first state may come to the second, whatever the console gives and is given
pub data ComesTo (image : ImageView) (stack_end : ℕ) (s : State) : State → Type 0 where
  Here : (to : State) → SameFrames s to → ComesTo image stack_end s to
  On : (t u to : State) → ComesTo image stack_end s t → step_outcome image stack_end t ≡ Goes u → SameFrames u to → ComesTo image stack_end s to

abbrev pub NeverStuck : ImageView → ℕ → State → Type 0
NeverStuck image stack_end s = (to : State) → ComesTo image stack_end s to → step_outcome image stack_end to ≢ Stuck

-- a run of this image, with this many locals of main, never gets stuck
abbrev pub IsSafe : ImageView → ℕ → ℕ → Type 0
IsSafe image stack_end main_locals = NeverStuck image stack_end (start_of main_locals [])
