-- What compiling a text gives: the accepted image of its program's code, or the first of its refusals.
use Rattle.std.specs.Prelude.{◌≡◌, ℕ, List}
use Rattle.tiny_compiler.specs.Common.{STANDARD, IsAccepted, VerifiedView, ImageView, IsNamed, Program, IsRefused, Spells, TinyError, IsCodeOf, Machine}
use Rattle.tiny_compiler.specs.Common.{timing_of, RunsAsMeant, runs_of}
use Rattle.tiny_compiler.specs.Image.{IsTooLarge}

-- the image of the code of the text's program, in which names fit
pub record IsImageOf (text : List ℕ) (image : ImageView) : Type 0 where
  pub program : Program
  pub spelled : Spells text program
  pub named : IsNamed program
  pub code : IsCodeOf program image

-- the image of the text's program, accepted on the standard map
pub record IsCompiled (text : List ℕ) (v : VerifiedView) : Type 0 where
  pub program : Program
  pub spelled : Spells text program
  pub code : IsCodeOf program v.image
  pub map_is : v.map ≡ STANDARD
  pub accepted : IsAccepted v

-- the text spells no program, or its code exceeds a limit
pub data HasNoCode (text : List ℕ) (e : TinyError) : Type 0 where
  NoProgram : IsRefused text e → HasNoCode text e
  TooLarge : (program : Program) → Spells text program → IsTooLarge program e → HasNoCode text e

-- where the text spells the program and is compiled to this image, the image's runs on the machine are as the program means
abbrev pub RunsAsSpelled : List ℕ → Program → VerifiedView → Machine → Type 0
RunsAsSpelled text program v machine = Spells text program → IsCompiled text v →
    RunsAsMeant program (runs_of v.image v.map.stack_end (timing_of machine)) v.main_locals
