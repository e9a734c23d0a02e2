-- What is appended to a text, with its jumps.
use Rattle.std.specs.Prelude.{◌≡◌, ℕ, ℤ, ◌+◌, List, [], ◌∷◌, ◌++◌, length, Option, None, Vec}
use Rattle.std.specs.declared.alloc.Global.{Global}
use Rattle.std.specs.Option.{option_map, option_or}
use Rattle.ijvm_instr.specs.declared.instr.Instr.{Instr}
use Rattle.ijvm_instr.specs.Jumps as jumps
use Rattle.ijvm_instr.specs.Prelude.{first_far, jumps_of}
use Rattle.ijvm_program.specs.declared.line.Jump.{Jump}
use Rattle.ijvm_program.specs.Prelude.{jump_by}
use Rattle.ijvm_text.specs.declared.text.FarJump.{FarJump}
use Rattle.ijvm_text.specs.declared.text.Text.{Text}
use Rattle.ijvm_text.specs.Bytes.{code_bytes}

abbrev pub jump_of : FarJump → jumps.Jump
jump_of j = (j.line, j.distance)

abbrev pub far_of : Option FarJump → Option jumps.Jump
far_of far = option_map jump_of far

-- these bytes, with these jumps, are added to the old text; where a jump is too far, only the number of bytes is kept
pub record Adds (old new : Text) (added : List ℕ) (js : List jumps.Jump) : Type 0 where
  pub size : length new.bytes.items ≡ length old.bytes.items + length added
  pub far : far_of new.far ≡ option_or (far_of old.far) (first_far js)
  pub bytes : far_of new.far ≡ None → new.bytes.items ≡ old.bytes.items ++ added

-- the text is these bytes, with these jumps; where a jump is too far, only the number of bytes is kept
pub record IsText (text : Text) (all : List ℕ) (js : List jumps.Jump) : Type 0 where
  pub size : length text.bytes.items ≡ length all
  pub far : far_of text.far ≡ first_far js
  pub bytes : far_of text.far ≡ None → text.bytes.items ≡ all

-- all of the other text is added to the old one
abbrev pub AddsText : Text → Text → Text → Type 0
AddsText old new other = (bytes : List ℕ) (js : List jumps.Jump) → IsText other bytes js → Adds old new bytes js

-- this code stands after the old bytes
abbrev pub Puts : Vec ℕ Global → Vec ℕ Global → List Instr → Type 0
Puts old new code = new.items ≡ old.items ++ code_bytes code

-- this code, whose jumps have these lines, is added to the old text
abbrev pub AddsCode : Text → Text → List Instr → List ℕ → Type 0
AddsCode old new code lines = Adds old new (code_bytes code) (jumps_of lines code)

-- the text is this code, whose jumps have these lines
abbrev pub IsCode : Text → List Instr → List ℕ → Type 0
IsCode text code lines = IsText text (code_bytes code) (jumps_of lines code)

-- this jump, which has this line and leads so far, is added
abbrev pub AddsJump : Text → Text → Jump → ℕ → ℤ → Type 0
AddsJump old new jump line distance = Adds old new (code_bytes (jump_by jump distance ∷ [])) ((line, distance) ∷ [])
