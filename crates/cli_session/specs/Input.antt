-- The input of a program whose session takes its lines from the console, and how a command ends that takes that input from a file.
use Rattle.std.specs.Prelude.{◌≡◌, ℕ, List, [], Option, Some, None}
use Rattle.cli_outside.specs.Prelude.{OutsideView, IsFileRead, IsUnread}

-- the bytes of the named file, or none where no file is named
abbrev pub IsInput : Option (List ℕ) → OutsideView → List ℕ → Type 0
IsInput None o input = input ≡ []
IsInput (Some name) o input = IsFileRead name input o

-- the bytes of the named file are not available
abbrev pub IsNoInput : Option (List ℕ) → OutsideView → OutsideView → ℕ → Type 0
IsNoInput None old new status = ⊥
IsNoInput (Some name) old new status = IsUnread name old new status

-- `Runs input old new status` says how the session over an input went.
pub data EndsWithInput (Runs : List ℕ → OutsideView → OutsideView → ℕ → Type 0) (name : Option (List ℕ))
    (old new : OutsideView) (status : ℕ) : Type 0 where
  NoInput : IsNoInput name old new status → EndsWithInput Runs name old new status
  HasInput : (input : List ℕ) → IsInput name old input → Runs input old new status → EndsWithInput Runs name old new status
