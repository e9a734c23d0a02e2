-- How `micro` and `print-micro` end.
use Rattle.std.specs.Prelude.{◌≡◌, ℕ, List, Some, None, IsSome}
use Rattle.cli_micro.specs.Common.{Machine, ControlStore, IsStore, OutsideView, PrintsOnOut, Ends, WritesThenPrints, MalError, MalView, IsRefused}
use Rattle.cli_micro.specs.Common.{SpellsProgram, canonical_text, PlaceError, StoreError, IsChosenList, demands_of, IsFilled, machine_of, RefusesFile}
use Rattle.cli_micro.specs.Common.{store_file}
use Rattle.cli_outside.specs.Status as exits
use Rattle.store_placement.specs.Refusals as placing
use Rattle.cli_micro.specs.Reasons.{mal_reason, place_reason, store_reason}
use Rattle.cli_micro.specs.Texts.{listing, placement_text}

-- the control store of a program at these addresses
pub record IsStoreOf (program : MalView) (addresses : List ℕ) (s : ControlStore) : Type 0 where
  pub machine : s.machine ≡ program.machine
  pub store : IsStore s
  pub filled : IsFilled program addresses s.words

-- the text spells no microprogram, or one that has no placement, for this reason
pub data IsRefusedText (machine : Machine) (bytes reason : List ℕ) : Type 0 where
  NoProgram : (e : MalError) → IsRefused machine bytes e → mal_reason e ≡ Some reason → IsRefusedText machine bytes reason
  NoPlacement : (program : MalView) (e : PlaceError) → SpellsProgram machine bytes program → placing.Refuses (demands_of program) e →
      reason ≡ place_reason program.statements e → IsRefusedText machine bytes reason

-- a microprogram, its addresses and its control store
pub record Placed : Type 0 where
  pub program : MalView
  pub addresses : List ℕ
  pub store : ControlStore

-- the text spells the microprogram, whose addresses are its chosen placement
pub record IsPlaced (machine : Machine) (bytes : List ℕ) (p : Placed) : Type 0 where
  pub spelled : SpellsProgram machine bytes p.program
  pub chosen : IsChosenList (demands_of p.program) p.addresses
  pub stored : IsStoreOf p.program p.addresses p.store

-- the store file of a placed microprogram, and what is printed of it
pub record IsMadeOf (p : Placed) (file text : List ℕ) : Type 0 where
  pub file_is : file ≡ store_file p.store
  pub text_is : text ≡ placement_text p.program p.addresses p.store

-- these are made of the text's microprogram
pub record IsMade (machine : Machine) (bytes file text : List ℕ) : Type 0 where
  pub placed : Placed
  pub is : IsPlaced machine bytes placed
  pub made : IsMadeOf placed file text

-- `micro` on this machine: the store of the placed microprogram is written to the target, and then its text is printed
abbrev pub MicroAnswers : Machine → List ℕ → List ℕ → OutsideView → OutsideView → ℕ → Type 0
MicroAnswers machine target =
    Ends (IsRefusedText machine) (IsPlaced machine) (λ p. WritesThenPrints target (store_file p.store) (placement_text p.program p.addresses p.store))

-- what is printed of a file. One that begins with the magic of a machine is a store file of that machine, which is listed; any other is the
-- text of a microprogram for this one, which is printed in canonical form
pub data IsPrinted (machine : Machine) (bytes text : List ℕ) : Type 0 where
  OfStoreFile : (s : ControlStore) → IsSome (machine_of bytes) → IsStore s → bytes ≡ store_file s → text ≡ listing s → IsPrinted machine bytes text
  OfText : (program : MalView) → machine_of bytes ≡ None → SpellsProgram machine bytes program → text ≡ canonical_text program → IsPrinted machine bytes text

-- the file is neither, for this reason
pub data IsUnprinted (machine : Machine) (bytes reason : List ℕ) : Type 0 where
  NoStore : (e : StoreError) → IsSome (machine_of bytes) → RefusesFile bytes e → store_reason e ≡ Some reason → IsUnprinted machine bytes reason
  NoText : (e : MalError) → machine_of bytes ≡ None → IsRefused machine bytes e → mal_reason e ≡ Some reason → IsUnprinted machine bytes reason

-- `print-micro`
abbrev pub PrintMicroAnswers : Machine → List ℕ → OutsideView → OutsideView → ℕ → Type 0
PrintMicroAnswers machine = Ends (IsUnprinted machine) (IsPrinted machine) (λ text. PrintsOnOut text exits.done)
