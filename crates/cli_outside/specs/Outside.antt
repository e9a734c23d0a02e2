-- What a call of `mic` sees of the outside and does to it: files, the console, and the two sinks `out` and `err`.
use Rattle.std.specs.Prelude.{◌≡◌, ℕ, List, ◌++◌, take, Option, Result}
use Rattle.std.specs.Option.{option_map}
use Rattle.std.specs.Borrow.{Bor, GName, MutBor}
use Rattle.mic_base.specs.Prelude.{Rose, Contents, IsFlushed, Puts}
use Rattle.cli_outside.specs.Status as exits

-- what a sink holds and what it has passed on of that, where these are known, and how often it has failed
pub record SinkState : Type 0 where
  pub held : Option (List ℕ)
  pub passed : Option (List ℕ)
  pub faults : ℕ

-- what a source has left, where that is known, and how often it has failed
pub record SourceState : Type 0 where
  pub left : Option (List ℕ)
  pub faults : ℕ

-- what the files contain, where that is known, and how often they have failed
pub record FilesState : Type 0 where
  pub contents : Option Contents
  pub faults : ℕ

abbrev pub sink_state : Option (List ℕ) → Option (List ℕ) → ℕ → SinkState
sink_state held passed faults = record { held = held; passed = passed; faults = faults }

abbrev pub source_state : Option (List ℕ) → ℕ → SourceState
source_state left faults = record { left = left; faults = faults }

abbrev pub files_state : Option Contents → ℕ → FilesState
files_state contents faults = record { contents = contents; faults = faults }

-- The state of an object, by what it shows of itself.

abbrev pub sink_of : {K : Type 0} → (K → Option (List ℕ)) → (K → Option (List ℕ)) → (K → ℕ) → K → SinkState
sink_of held passed faults k = sink_state (held k) (passed k) (faults k)

abbrev pub source_of : {S : Type 0} → (S → Option (List ℕ)) → (S → ℕ) → S → SourceState
source_of left faults s = source_state (left s) (faults s)

abbrev pub files_of : {F : Type 0} → (F → Option Contents) → (F → ℕ) → F → FilesState
files_of contents faults f = files_state (contents f) (faults f)

-- the name behind a reference, where one is given
abbrev pub name_in : Option (Bor (List ℕ)) → Option (List ℕ)
name_in = option_map (λ name. name.now)

-- all that a call of `mic` sees of the outside
pub record OutsideView : Type 0 where
  pub files : FilesState
  pub console : SourceState
  pub out : SinkState
  pub err : SinkState

abbrev pub outside_view : FilesState → SourceState → SinkState → SinkState → OutsideView
outside_view files console out err = record { files = files; console = console; out = out; err = err }

-- all but the files is as it was
abbrev pub with_files : OutsideView → FilesState → OutsideView
with_files o files = outside_view files o.console o.out o.err

-- which references lend the parts
pub record LenderNames : Type 0 where
  pub files : GName
  pub console : GName
  pub out : GName
  pub err : GName

abbrev pub lender_names : GName → GName → GName → GName → LenderNames
lender_names files console out err = record { files = files; console = console; out = out; err = err }

-- the names of four references
abbrev pub names_of : {F S K E : Type 0} → MutBor F → MutBor S → MutBor K → MutBor E → LenderNames
names_of files console out err = lender_names files.ghost_name console.ghost_name out.ghost_name err.ghost_name

-- what is seen of an outside whose parts are lent, and which references lend them
pub record LentView : Type 0 where
  pub names : LenderNames
  pub seen : OutsideView

abbrev pub lent_view : LenderNames → OutsideView → LentView
lent_view names seen = record { names = names; seen = seen }

-- This is done to what is seen, and the same references lend it.
pub record Over (Does : OutsideView → OutsideView → ℕ → Type 0) (old new : LentView) (status : ℕ) : Type 0 where
  pub names : new.names ≡ old.names
  pub does : Does old.seen new.seen status

-- The sink got this text; it got a front of it.

abbrev pub Got : Option (List ℕ) → List ℕ → Option (List ℕ) → Type 0
Got old text new = new ≡ option_map (λ held. held ++ text) old

abbrev pub GotInPart : Option (List ℕ) → List ℕ → Option (List ℕ) → Type 0
GotInPart old text new = (n : ℕ) × (new ≡ option_map (λ held. held ++ take n text) old)

-- The sink got the text and has passed on all that it holds, and the status is the text's. Or the sink failed: it got
-- a front of the text, and the status is a failed sink's.
pub data Says (old new : SinkState) (text : List ℕ) (code status : ℕ) : Type 0 where
  Said : status ≡ code → Got old.held text new.held → IsFlushed new.held new.passed → new.faults ≡ old.faults → Says old new text code status
  Unsaid : status ≡ exits.sink → GotInPart old.held text new.held → Rose old.faults new.faults → Says old new text code status

-- a sink gets a text so, by what it shows of itself
abbrev pub SaysTo : {K : Type 0} → (K → Option (List ℕ)) → (K → Option (List ℕ)) → (K → ℕ) → K → K → List ℕ → ℕ → ℕ → Type 0
SaysTo held passed faults old new = Says (sink_of held passed faults old) (sink_of held passed faults new)

-- A call after another that has put a text: it puts this piece after the text, or leaves the text as it was put.

abbrev pub PutsAfter : {E : Type 0} → Result Unit E → Option (List ℕ) → List ℕ → Result Unit E → Option (List ℕ) → Type 0
PutsAfter said old piece result new = (first : Option (List ℕ)) (text : List ℕ) → Puts first text said old → Puts first (text ++ piece) result new

abbrev pub StaysPut : {E : Type 0} → Result Unit E → Option (List ℕ) → Result Unit E → Option (List ℕ) → Type 0
StaysPut said old result new = (first : Option (List ℕ)) (text : List ℕ) → Puts first text said old → Puts first text result new

-- The text is put to `out`, or to `err`, and nothing else is done.

pub record PrintsOnOut (text : List ℕ) (code : ℕ) (old new : OutsideView) (status : ℕ) : Type 0 where
  pub files : new.files ≡ old.files
  pub console : new.console ≡ old.console
  pub err : new.err ≡ old.err
  pub says : Says old.out new.out text code status

pub record TellsOnErr (text : List ℕ) (code : ℕ) (old new : OutsideView) (status : ℕ) : Type 0 where
  pub files : new.files ≡ old.files
  pub console : new.console ≡ old.console
  pub out : new.out ≡ old.out
  pub says : Says old.err new.err text code status
