-- Frames: the state of the plain machine, and where its words lie in memory. Chapter 4 of the book, with this profile's memory map.
use Rattle.std.specs.Prelude.{ℕ, ◌+◌, ◌-◌, ◌<◌, ◌^◌, List, [], ◌∷◌, length, replicate, Option, Some, None, IfSome, All}

-- Lists of operands and of frames begin with the end that changes: the last operand and the nearest caller stand first.

pub record Frame : Type 0 where
  -- each a word, or none where it is not set; local 0 of a method's frame is the place of its link word, and never set
  pub locals : List (Option ℕ)
  -- the last one first
  pub operands : List ℕ
  -- the return address of a method's frame
  pub back : Option ℕ

pub record State : Type 0 where
  pub running : Frame
  -- the nearest first
  pub callers : List Frame
  -- the byte address of the next instruction
  pub at : ℕ
  -- the console's bytes that are not taken
  pub untaken : List ℕ
  -- the bytes that the console was given
  pub given : List ℕ

abbrev pub frames_of : State → List Frame
frames_of s = s.running ∷ s.callers

-- the start of a run: main's frame with this many locals, each 0
abbrev pub start_of : ℕ → List ℕ → State
start_of main_locals input =
    record {
      running = record { locals = replicate main_locals (Some 0); operands = []; back = None };
      callers = [];
      at = 0;
      untaken = input;
      given = [];
    }

-- A frame has its locals from its first word on, then, if it is a method's, the return address and the caller's LV, then its operands.

-- the words between the locals and the operands
abbrev pub kept_words : Option ℕ → ℕ
kept_words None = 0
kept_words (Some back) = 2

-- where the operands of a frame begin, which begins at this word address
abbrev pub operands_at : ℕ → Frame → ℕ
operands_at lv f = lv + length f.locals + kept_words f.back

-- the word address after the last operand
abbrev pub frame_end : ℕ → Frame → ℕ
frame_end lv f = operands_at lv f + length f.operands

-- the word address after these frames, where the next frame begins
abbrev pub base : List Frame → ℕ
base [] = 0x8000
base (f ∷ fs) = frame_end (base fs) f

-- where the running frame begins
abbrev pub lv_of : State → ℕ
lv_of s = base s.callers

-- the place of the last operand, or the place before the operands' first
abbrev pub sp_of : State → ℕ
sp_of s = base (frames_of s) - 1

-- the last operand
abbrev pub top_of : List ℕ → Option ℕ
top_of [] = None
top_of (x ∷ xs) = Some x

-- Operands, locals and addresses are words.

abbrev pub IsWord : ℕ → Type 0
IsWord x = x < 2 ^ 32

pub record HasWords (f : Frame) : Type 0 where
  pub locals : All (λ v. IfSome v IsWord) f.locals
  pub operands : All IsWord f.operands
  pub back : IfSome f.back IsWord

pub record AreWords (s : State) : Type 0 where
  pub frames : All HasWords (frames_of s)
  pub at : IsWord s.at
