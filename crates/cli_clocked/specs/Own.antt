-- The microprogram that a command clocks: that of a file, or the one that ships; and why there is none.
use Rattle.std.specs.Prelude.{◌≡◌, ℕ, List, Option, Some, None}
use Rattle.cli_clocked.specs.Common.{Machine, MalView, SpellsProgram, out_of_memory, OutsideView, TellsOnErr, IsHad, IsNotHad, listed_program, IsRefusedText}
use Rattle.cli_outside.specs.Status as exits

-- no microprogram comes from a file that should hold one
abbrev pub HasNoMicroprogram : Machine → List ℕ → OutsideView → OutsideView → ℕ → Type 0
HasNoMicroprogram machine = IsNotHad (IsRefusedText machine)

-- the microprogram of the file that is named or, where none is named, the one that ships for the machine
abbrev pub IsChosenMicroprogram : Machine → Option (List ℕ) → OutsideView → MalView → Type 0
IsChosenMicroprogram machine None o micro = micro ≡ listed_program machine
IsChosenMicroprogram machine (Some name) o micro = IsHad (SpellsProgram machine) name o micro

-- no microprogram comes from the file, or memory ran out for the one that ships
abbrev pub NoneChosen : Machine → Option (List ℕ) → OutsideView → OutsideView → ℕ → Type 0
NoneChosen machine None = TellsOnErr out_of_memory exits.memory
NoneChosen machine (Some name) = HasNoMicroprogram machine name
