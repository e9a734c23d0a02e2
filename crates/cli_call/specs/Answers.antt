-- The answers of a call of `mic`, one by one: the cause of each, and the state of the outside after it.
use Rattle.std.specs.Prelude.{◌≡◌, ◌<◌, ◌≤◌, ◌⊎◌, ℕ, true, List, length, Option, Some, None, codes, is_some}
use Rattle.cli_call.specs.Common.{Rose, Tells, most_bytes, CommandName, is_in, form_for, Asked, OutsideView, IsFileRead}
use Rattle.cli_words.specs.declared.table.CommandName.TheVariants as name
use Rattle.cli_outside.specs.Status as exits
use Rattle.cli_call.specs.CallEnds.{CallEnds}

-- the command has the plain word FILE, which names a file that it reads
abbrev pub TakesFile : CommandName → Type 0
TakesFile command = is_in (codes "FILE") (form_for command).plain ≡ true

-- the words have this file read: the command's own, a microprogram, or the input of a session
abbrev pub HasFileRead : Option Asked → List ℕ → Type 0
HasFileRead None name = ⊥
HasFileRead (Some a) name = (TakesFile a.command × (name ≡ a.file)) ⊎ ((a.micro ≡ Some name) ⊎ (a.input ≡ Some name))

-- the command runs a program to its end
abbrev pub IsRun : CommandName → Type 0
IsRun name.Run = Unit {0}
IsRun name.Trace = Unit {0}
IsRun name.Profile = Unit {0}
IsRun name.Reference = Unit {0}
IsRun name.Soak = Unit {0}
IsRun name.Cache = Unit {0}
IsRun name.Tiny = Unit {0}
IsRun _ = ⊥

-- the words have a program run to its end
abbrev pub Runs : Option Asked → Type 0
Runs None = ⊥
Runs (Some a) = IsRun a.command

-- the words have it run by a person's own microprogram
abbrev pub RunsOwn : Option Asked → Type 0
RunsOwn None = ⊥
RunsOwn (Some a) = IsRun a.command × (is_some a.micro ≡ true)

-- the words have the definition run it
abbrev pub IsReference : Option Asked → Type 0
IsReference None = ⊥
IsReference (Some a) = a.command ≡ name.Reference

-- the console and `out` are as they were
pub record IsUntouched (old new : OutsideView) : Type 0 where
  pub console : new.console ≡ old.console
  pub out : new.out ≡ old.out

-- the files, the console and `out` are as they were
pub record IsOnlyTold (old new : OutsideView) : Type 0 where
  pub files : new.files ≡ old.files
  pub untouched : IsUntouched old new

-- no count of faults rose
pub record IsFaultless (old new : OutsideView) : Type 0 where
  pub files : new.files.faults ≡ old.files.faults
  pub console : new.console.faults ≡ old.console.faults
  pub out : new.out.faults ≡ old.out.faults
  pub err : new.err.faults ≡ old.err.faults

-- A status is one of these, each with its cause. There are no others.
pub data IsAnswer (asks : Option Asked) (old new : OutsideView) (status : ℕ) : Type 0 where
  -- 0: the command is done, or a run came to HALT, and nothing failed
  Done : IsFaultless old new → status ≡ exits.done → IsAnswer asks old new status
  -- 1, 2, 3: a run came to ERR, to its bound, to the end of the stack
  Ended : Runs asks → exits.error ≤ status → status ≤ exits.stack_limit → IsAnswer asks old new status
  -- 64
  Misused : asks ≡ None → IsOnlyTold old new → status ≡ exits.usage → IsAnswer asks old new status
  -- 65: a file that the words have read has these bytes, and is refused for a reason
  Refused : (name bytes : List ℕ) → HasFileRead asks name → IsFileRead name bytes old → IsOnlyTold old new → status ≡ exits.refused →
      IsAnswer asks old new status
  -- 66
  FileFailed : Rose old.files.faults new.files.faults → IsUntouched old new → status ≡ exits.file → IsAnswer asks old new status
  -- 67
  TooLong : (name bytes : List ℕ) → HasFileRead asks name → Tells old.files.contents name bytes → most_bytes < length bytes → IsOnlyTold old new →
      status ≡ exits.too_long → IsAnswer asks old new status
  -- 68, 69: only by a person's own microprogram
  OutOfMap : RunsOwn asks → status ≡ exits.out_of_map → IsAnswer asks old new status
  Adrift : RunsOwn asks → status ≡ exits.adrift → IsAnswer asks old new status
  -- 70
  ConsoleFailed : Rose old.console.faults new.console.faults → status ≡ exits.console → IsAnswer asks old new status
  -- 71
  SinkFailed : Rose old.out.faults new.out.faults ⊎ Rose old.err.faults new.err.faults → status ≡ exits.sink → IsAnswer asks old new status
  -- 75: before the first cycle of a run, and before anything was printed; or later, by the definition's run
  NoMemory : IsUntouched old new → status ≡ exits.memory → IsAnswer asks old new status
  ShortOfMemory : IsReference asks → status ≡ exits.memory → IsAnswer asks old new status

-- a call that ends in this way ends with one of these answers
abbrev pub HasItsCause : Option Asked → OutsideView → OutsideView → ℕ → Type 0
HasItsCause asks old new status = CallEnds asks old new status → IsAnswer asks old new status
