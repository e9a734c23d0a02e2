-- That `tiny` does what the program of its text means: what its calls come to, in the words of that meaning.
use Rattle.std.specs.Prelude.{◌≡◌, ◌≤◌, ◌⊎◌, ℕ, List, ◌++◌, Some, IfSome, length}
use Rattle.cli_call.specs.Common.{Contents, file_in, most_bytes, Machine, told_of, Program, Ended, meaning, Spells, IsCompiled, VerifiedView, OutsideView, Tiny}
use Rattle.tiny_runs.specs.Prelude.{IsPrefix, output}
use Rattle.cli_outside.specs.Status as exits
use Rattle.cli_call.specs.CallEnds.{CallEnds}
use Rattle.cli_call.specs.Agree.{IsQuiet}

-- a call of `tiny` over a file with this text and a console with this input, which met no fault and was not out of memory
pub record IsTinyCall (text input : List ℕ) (machine : Machine) (bound : ℕ)
    (old new : OutsideView) (status : ℕ) : Type 0 where
  pub file : List ℕ
  pub contents : Contents
  pub tells : old.files.contents ≡ Some contents
  pub has : file_in contents file ≡ Some text
  pub left : old.console.left ≡ Some input
  pub ends : CallEnds (Some (Tiny file machine bound)) old new status
  pub quiet : IsQuiet old new status

-- `out` has got this, where what it holds is known
abbrev pub HasGot : OutsideView → OutsideView → List ℕ → Type 0
HasGot old new given = IfSome new.out.held (λ held. held ≡ told_of old.out.held ++ given)

-- the run ended by HALT with this output, and this is left of the input
pub record HasEnded (given untaken : List ℕ) (old new : OutsideView) (status : ℕ) : Type 0 where
  pub done : status ≡ exits.done
  pub got : HasGot old new given
  pub left : new.console.left ≡ Some untaken

-- What a call that ran this program came to. No run ends by ERR.
pub data EndsAsMeant (program : Program) (input : List ℕ) (old new : OutsideView) (status : ℕ) : Type 0 where
  -- the program ends, with this output and this rest of the input, and so did the run
  Whole : (n : ℕ) (given untaken : List ℕ) → meaning program input n ≡ Ended given untaken →
      HasEnded given untaken old new status → EndsAsMeant program input old new status
  -- the bound or the stack's end cut the run, and `out` has got a front of what the program gives
  Cut : (n : ℕ) (given : List ℕ) → IsPrefix given (output (meaning program input n)) → HasGot old new given →
      (status ≡ exits.bound) ⊎ (status ≡ exits.stack_limit) → EndsAsMeant program input old new status

-- with some bound every call comes to this, or to the stack's end
abbrev pub SomeBound : (ℕ → OutsideView → OutsideView → ℕ → Type 0) → (OutsideView → OutsideView → ℕ → Type 0) → Type 0
SomeBound IsCall Comes = (bound : ℕ) × ((old new : OutsideView) (status : ℕ) →
    IsCall bound old new status → (status ≡ exits.stack_limit) ⊎ Comes old new status)

-- All calls over a text that compiles to this program are as it means.
pub record CallsAreAsMeant (text : List ℕ) (program : Program) (input : List ℕ) (machine : Machine) : Type 0 where
  pub ends : (bound : ℕ) (old new : OutsideView) (status : ℕ) → IsTinyCall text input machine bound old new status →
      EndsAsMeant program input old new status
  -- where the program ends, calls end with its output and rest, with some bound
  pub ended : (n : ℕ) (given untaken : List ℕ) → meaning program input n ≡ Ended given untaken →
      SomeBound (IsTinyCall text input machine) (HasEnded given untaken)
  -- some bound reaches each output of the program
  pub reaches : (n : ℕ) → SomeBound (IsTinyCall text input machine)
      (λ old new status. (given : List ℕ) × IsPrefix (output (meaning program input n)) given × HasGot old new given)

-- whatever program a text spells and whatever image it compiles to, on each machine
abbrev pub TinyIsAsMeant : List ℕ → List ℕ → Type 0
TinyIsAsMeant text input =
    (program : Program) (v : VerifiedView) (machine : Machine) → length text ≤ most_bytes → Spells text program → IsCompiled text v →
    CallsAreAsMeant text program input machine
