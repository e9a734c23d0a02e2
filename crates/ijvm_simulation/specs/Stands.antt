-- When registers, memory and console stand for a state of the plain machine: its frames lie in memory as chapter 4 of the book lays them out.
use Rattle.std.specs.Prelude.{◌≡◌, ℕ, ◌+◌, ◌<◌, ◌≤◌, List, [], ◌∷◌, ◌++◌, length, slice_index, slice_get, Option, Some, None}
use Rattle.ijvm_simulation.specs.Common.{World, Meaning, Frame, State, frames_of, operands_at, base, lv_of}

-- what a run is over: the memory's words when it began, and the bytes that had been given before
pub record Origin : Type 0 where
  pub words : List ℕ
  pub given : List ℕ

-- A frame in memory.

-- the operands, the last one first, from this word address on
abbrev pub OperandsAt : List ℕ → ℕ → List ℕ → Type 0
OperandsAt words at [] = Unit {0}
OperandsAt words at (x ∷ xs) = (slice_index words (at + length xs) ≡ x) × OperandsAt words at xs

-- a method's link word holds the address of its return address, and the LV of its caller stands after that
abbrev pub IsLinked : List ℕ → ℕ → ℕ → ℕ → Option ℕ → Type 0
IsLinked words lv locals caller None = Unit {0}
IsLinked words lv locals caller (Some back) =
    (slice_index words lv ≡ lv + locals) × (slice_index words (lv + locals) ≡ back) × (slice_index words (lv + locals + 1) ≡ caller)

-- the frame that begins at `lv`, where its caller's begins at `caller`; a local that is not set matches any word
pub record FrameStands (words : List ℕ) (lv caller : ℕ) (f : Frame) : Type 0 where
  pub locals : (k v : ℕ) → slice_get f.locals k ≡ Some (Some v) → slice_index words (lv + k) ≡ v
  pub operands : OperandsAt words (operands_at lv f) f.operands
  pub linked : IsLinked words lv (length f.locals) caller f.back

-- where the nearest of these frames begins, if there is one
abbrev pub caller_lv : List Frame → ℕ
caller_lv [] = 0
caller_lv (f ∷ fs) = base fs

abbrev pub FramesStand : List ℕ → List Frame → Type 0
FramesStand words [] = Unit {0}
FramesStand words (f ∷ fs) = FrameStands words (base fs) (caller_lv fs) f × FramesStand words fs

-- below the stack nothing has changed
pub record IsMemory (origin words : List ℕ) : Type 0 where
  pub kept : (at : ℕ) → at < 0x8000 → slice_index words at ≡ slice_index origin at
  pub long : length words ≡ length origin

-- TOS is the last operand, where there is one
abbrev pub IsTop : ℕ → List ℕ → Type 0
IsTop tos [] = Unit {0}
IsTop tos (x ∷ xs) = tos ≡ x

-- what both machines have at a boundary: these SP, LV, CPP and TOS, and the world
pub record RegistersStand (o : Origin) (s : State) (sp lv cpp tos : ℕ) (w : World) : Type 0 where
  pub sp_is : sp + 1 ≡ base (frames_of s)
  pub lv_is : lv ≡ lv_of s
  pub cpp_is : cpp ≡ 0x4000
  pub tos_is : IsTop tos s.running.operands
  pub frames : FramesStand w.words (frames_of s)
  pub memory : IsMemory o.words w.words
  pub fits : base (frames_of s) ≤ length o.words
  pub untaken : w.untaken ≡ s.untaken
  pub given : w.given ≡ o.given ++ s.given

-- A machine with a microprogram at this entry stands for a state of the plain machine: its frames lie in memory, and its instruction comes next.
pub record IsAt {S : Type 0} (m : Meaning S) (IsReady : ℕ → List ℕ → ℕ → S → World → Type 0) (entry : ℕ) (o : Origin)
    (s : State) (x : S) (w : World) : Type 0 where
  pub holds : RegistersStand o s (m.registers x).sp (m.registers x).lv (m.registers x).cpp (m.registers x).tos w
  pub ready : IsReady entry o.words s.at x w
