-- Main or a method, as its lines make it: its names in order, its labels, and its lines of code.
use Rattle.std.specs.Prelude.{◌≡◌, ℕ, Bool, true, false, List, [], Option, Result, Ok, Err, length}
use Rattle.ijvm_asm.specs.declared.draft.DraftLine.{DraftLine}
use Rattle.ijvm_asm.specs.declared.error.AsmError.{AsmError}
use Rattle.ijvm_asm.specs.declared.error.AsmError.TheVariants as errors

pub record DraftView : Type 0 where
  -- the name of a method
  pub name : Option (List ℕ)
  -- the parameters, then the locals
  pub names : List (List ℕ)
  -- the number of parameters
  pub parameters : ℕ
  pub labels : List (List ℕ)
  -- for each label, how many code lines stand before it
  pub label_positions : List ℕ
  pub lines : List DraftLine
  -- a label has no instruction yet
  pub pending : Bool

-- a unit with these parameters, before its first line
abbrev pub begun : Option (List ℕ) → List (List ℕ) → DraftView
begun name parameters = record {
  name = name;
  names = parameters;
  parameters = length parameters;
  labels = [];
  label_positions = [];
  lines = [];
  pending = false;
}

abbrev pub is_memory : AsmError → Bool
is_memory errors.OutOfMemory = true
is_memory _ = false

-- the error is the refusal, or, where there is none, that memory ran out
abbrev pub RefusesBy : {A : Type 0} → AsmError → Result A AsmError → Type 0
RefusesBy e (Ok a) = e ≡ errors.OutOfMemory
RefusesBy e (Err f) = e ≡ f
