-- Where the run of an accepted image may stand: always where a path has come, with everything there that the next instruction needs.
use Rattle.std.specs.Prelude.{◌≡◌, ◌≢◌, ℕ, ◌+◌, ◌<◌, ◌≤◌, true, List, [], ◌∷◌, length, slice_get, Option, Some, None}
use Rattle.ijvm_instr.specs.declared.instr.Instr.{Instr}
use Rattle.ijvm_instr.specs.declared.row.Flow.TheVariants.{Call, Return}
use Rattle.ijvm_instr.specs.Prelude.{row_of, size_of, instr_at}
use Rattle.ijvm_image.specs.declared.method.Method.{Method}
use Rattle.ijvm_image.specs.Prelude.{ImageView, params, others}
use Rattle.ijvm_meaning.specs.Prelude.{Frame, State, start_of, Goes, is_own, step_outcome, state_after, ComesTo, IsSafe}
use Rattle.verifier_facts.specs.Paths.{arrival, HasConstant, callee, need_of, GoesOn, Reached}
use Rattle.verifier_facts.specs.Facts.{Names}

-- the return address and the locals of a frame of this unit: all of main's locals are set
abbrev pub IsFrameOf : List ℕ → ℕ → Option ℕ → Option ℕ → List (Option ℕ) → Type 0
IsFrameOf text main_locals None back locals = (back ≡ None) × (length locals ≡ main_locals) × ((k : ℕ) → slice_get locals k ≢ Some None)
IsFrameOf text main_locals (Some entry) back locals = (back ≢ None) × (length locals ≡ params text entry + others text entry)

-- a frame of this unit stands, or goes on, at this address with this depth: a path comes here, and for each local that is not set a path that carries it
pub record FrameStandsAt (image : ImageView) (main_locals : ℕ) (unit : Option ℕ) (at depth : ℕ) (back : Option ℕ) (locals : List (Option ℕ)) : Type 0 where
  pub reached : Reached image (arrival unit at depth None)
  pub carried : (k : ℕ) → 0 < k → slice_get locals k ≡ Some None → Reached image (arrival unit at depth (Some k))
  pub frame : IsFrameOf image.text main_locals unit back locals

-- each caller waits for its call's value, at the return address of the frame above
abbrev pub AreWaiting : ImageView → ℕ → Option ℕ → List Frame → Type 0
AreWaiting image main_locals None [] = Unit {0}
AreWaiting image main_locals None (f ∷ fs) = ⊥
AreWaiting image main_locals (Some at) [] = ⊥
AreWaiting image main_locals (Some at) (f ∷ fs) =
    ((unit : Option ℕ) × FrameStandsAt image main_locals unit at (length f.operands + 1) f.back f.locals) × AreWaiting image main_locals f.back fs

pub record IsSound (image : ImageView) (main_locals : ℕ) (s : State) : Type 0 where
  -- the running unit
  pub unit : Option ℕ
  pub running : FrameStandsAt image main_locals unit s.at (length s.running.operands) s.running.back s.running.locals
  pub callers : AreWaiting image main_locals s.running.back s.callers

-- what an instruction finds in a state
pub record Finds (image : ImageView) (s : State) (i : Instr) : Type 0 where
  pub code : instr_at image.text s.at ≡ Some i
  pub whole : s.at + size_of (row_of i) ≤ length image.text
  pub constant : HasConstant image.pool (row_of i).constant
  pub operands : (need : ℕ) × (need_of image (row_of i).needs (row_of i).flow ≡ Some need) × (need ≤ length s.running.operands)
  -- the local that it reads is set
  pub read : (k : ℕ) → (row_of i).reads ≡ Some k → (v : ℕ) × (slice_get s.running.locals k ≡ Some (Some v))
  -- the local that it names is one of the frame's, and no link word
  pub named : (k : ℕ) → Names (row_of i) k → (k < length s.running.locals) × (is_own s.running.back k ≡ true)
  -- wherever the unit goes on is inside the text
  pub inside : (to : ℕ) → GoesOn (row_of i).flow s.at (s.at + size_of (row_of i)) to → to < length image.text
  pub calls : (k : ℕ) → (row_of i).flow ≡ Call k → (m : Method) × (callee image k ≡ Some m) × (0 < m.params) × (m.entry + 4 < length image.text)
  pub returns : (row_of i).flow ≡ Return → (to : ℕ) × (f : Frame) × (fs : List Frame) × (s.running.back ≡ Some to)
      × (s.callers ≡ f ∷ fs) × (to < length image.text)

-- every run of the image, with this many locals of main, is sound, and never gets stuck
pub record KeepsSound (image : ImageView) (stack_end main_locals : ℕ) : Type 0 where
  pub start : (input : List ℕ) → IsSound image main_locals (start_of main_locals input)
  pub steps : (s to : State) → IsSound image main_locals s → step_outcome image stack_end s ≡ Goes to → IsSound image main_locals to
  pub finds : (s : State) → IsSound image main_locals s → (i : Instr) × Finds image s i
  -- each state that a run comes to is sound
  pub comes_to : (input : List ℕ) (to : State) → ComesTo image stack_end (start_of main_locals input) to → IsSound image main_locals to
  pub after : (input : List ℕ) (k : ℕ) (to : State) → state_after image stack_end k (start_of main_locals input) ≡ Some to → IsSound image main_locals to
  pub safe : IsSafe image stack_end main_locals
