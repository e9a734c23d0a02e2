-- How a command ends that reads one file: it gets nothing from the file, or this is done over what the file holds.
use Rattle.std.specs.Prelude.{◌≡◌, ◌<◌, ◌≤◌, ℕ, List, length, Option, None, Some, MatchOption, IsSomeAnd, Result, IfErr}
use Rattle.mic_base.specs.Prelude.{Rose, Contents, KeepsOthers, Tells, most_bytes}
use Rattle.cli_outside.specs.Status as exits
use Rattle.cli_outside.specs.Outside.{LentView, Over, OutsideView, PrintsOnOut, TellsOnErr, with_files}
use Rattle.cli_outside.specs.Messages.{cannot_read, cannot_write, message, out_of_memory, too_many_bytes}
use Rattle.cli_outside.specs.declared.refusal.Refusal.{Refusal}
use Rattle.cli_outside.specs.declared.status.Status.{Status}
use Rattle.cli_outside.specs.declared.refusal.Refusal.TheVariants as refusals

-- where a call returns a status in place of a value, this was done to the outside
abbrev pub OverIfErr : {T : Type 0} → (OutsideView → OutsideView → ℕ → Type 0) → LentView → LentView → Result T Status → Type 0
OverIfErr Does old new result = IfErr result (λ status. Over Does old new status.0)

-- every file but this one is as it was
abbrev pub OthersKept : Option Contents → Option Contents → List ℕ → Type 0
OthersKept old new name = MatchOption old (new ≡ None) (λ before. IsSomeAnd new (KeepsOthers before name))

-- the file has these bytes, and they are few enough
pub record IsFileRead (file bytes : List ℕ) (o : OutsideView) : Type 0 where
  pub has : Tells o.files.contents file bytes
  pub short : length bytes ≤ most_bytes

-- The file's bytes are not available: the files failed, it is too long, or there is no memory for it. Nothing else is done.
pub data IsUnread (file : List ℕ) (old new : OutsideView) (status : ℕ) : Type 0 where
  Failed : new.files.contents ≡ old.files.contents → Rose old.files.faults new.files.faults →
      TellsOnErr (message file cannot_read) exits.file (with_files old new.files) new status → IsUnread file old new status
  TooLong : (bytes : List ℕ) → Tells old.files.contents file bytes → most_bytes < length bytes →
      TellsOnErr (message file too_many_bytes) exits.too_long old new status → IsUnread file old new status
  NoRoom : TellsOnErr out_of_memory exits.memory old new status → IsUnread file old new status

-- Nothing comes from a file: it is not read, it is refused, or memory runs out. `Refuses bytes reason` says why a file of these bytes is refused.
pub data IsNotHad (Refuses : List ℕ → List ℕ → Type 0) (file : List ℕ) (old new : OutsideView) (status : ℕ) : Type 0 where
  Unread : IsUnread file old new status → IsNotHad Refuses file old new status
  Refused : (bytes reason : List ℕ) → IsFileRead file bytes old → Refuses bytes reason → TellsOnErr (message file reason) exits.refused old new status →
      IsNotHad Refuses file old new status
  Short : TellsOnErr out_of_memory exits.memory old new status → IsNotHad Refuses file old new status

-- the refusal for a reason; out of memory where there is none
abbrev pub refusal_by : Option (List ℕ) → Refusal
refusal_by None = refusals.OutOfMemory
refusal_by (Some reason) = refusals.Refused reason

-- what a refusal of a file of these bytes says of them; and what is printed of it
abbrev pub IsRefusal : (List ℕ → List ℕ → Type 0) → List ℕ → Refusal → Type 0
IsRefusal Refuses bytes (refusals.Refused reason) = Refuses bytes reason
IsRefusal Refuses bytes refusals.OutOfMemory = Unit {0}

abbrev pub TellsRefusal : List ℕ → Refusal → OutsideView → OutsideView → ℕ → Type 0
TellsRefusal file (refusals.Refused reason) = TellsOnErr (message file reason) exits.refused
TellsRefusal file refusals.OutOfMemory = TellsOnErr out_of_memory exits.memory

-- the file holds this: `Is bytes value` says that a file of these bytes does
pub record IsHad {V : Type 0} (Is : List ℕ → V → Type 0) (file : List ℕ) (o : OutsideView) (value : V) : Type 0 where
  pub bytes : List ℕ
  pub read : IsFileRead file bytes o
  pub is : Is bytes value

-- How a command ends that reads a file. `Does value old new status` says what is done over what the file holds.
pub data Ends {V : Type 0} (Refuses : List ℕ → List ℕ → Type 0) (Is : List ℕ → V → Type 0) (Does : V → OutsideView → OutsideView → ℕ → Type 0)
    (file : List ℕ) (old new : OutsideView) (status : ℕ) : Type 0 where
  NotHad : IsNotHad Refuses file old new status → Ends Refuses Is Does file old new status
  Did : (value : V) → IsHad Is file old value → Does value old new status → Ends Refuses Is Does file old new status

-- a text of it is printed: `Shows value text` says that this is the text
pub record PrintsTextOf {V : Type 0} (Shows : V → List ℕ → Type 0) (value : V) (old new : OutsideView) (status : ℕ) : Type 0 where
  pub text : List ℕ
  pub shows : Shows value text
  pub prints : PrintsOnOut text exits.done old new status

-- Bytes are written to a file, and then a text is printed.
pub data WritesThenPrints (target bytes text : List ℕ) (old new : OutsideView) (status : ℕ) : Type 0 where
  Written : Tells new.files.contents target bytes → OthersKept old.files.contents new.files.contents target →
      new.files.faults ≡ old.files.faults → PrintsOnOut text exits.done (with_files old new.files) new status →
      WritesThenPrints target bytes text old new status
  -- the files failed, and what the file to be written contains is unknown
  Unwritten : OthersKept old.files.contents new.files.contents target → Rose old.files.faults new.files.faults →
      TellsOnErr (message target cannot_write) exits.file (with_files old new.files) new status → WritesThenPrints target bytes text old new status
  -- Memory ran out while writing. That may come at any time: the file to be written may be whole, in part, or as it was.
  HalfWritten : OthersKept old.files.contents new.files.contents target → new.files.faults ≡ old.files.faults →
      TellsOnErr out_of_memory exits.memory (with_files old new.files) new status → WritesThenPrints target bytes text old new status
