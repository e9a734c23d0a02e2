-- How a call on the board of a session comes out, between the input of its program and the two sinks.
use Rattle.std.specs.Prelude.{◌≡◌, ◌≢◌, ◌⊎◌, ℕ, List, Option, None, Some, Result, OnOk, OnErr}
use Rattle.mic_debugger.specs.Common.{Rose, KeepsFront, StaysFlushed, MicroRun, BoardView, IsLedTo, Got, SinkState, SourceState, sink_of, source_of}
use Rattle.mic_clock.specs.declared.end.End.TheVariants as ends
use Rattle.mic_debugger.specs.Book.{Book, IsBookOf}
use Rattle.mic_debugger.specs.View.{ListingView}

pub record Streams : Type 0 where
  pub input : SourceState
  pub out : SinkState
  pub err : SinkState

-- the streams, by what a source and two sinks show of themselves
abbrev pub streams : {S K E : Type 0} → (S → Option (List ℕ)) → (S → ℕ) → S → (K → Option (List ℕ)) → (K → Option (List ℕ)) → (K → ℕ) → K →
    (E → Option (List ℕ)) → (E → Option (List ℕ)) → (E → ℕ) → E → Streams
streams left fails input held passed faults out held' passed' faults' err =
    record { input = source_of left fails input; out = sink_of held passed faults out; err = sink_of held' passed' faults' err }

-- what both sinks held stays in front
pub record KeepFronts (out_old out_new err_old err_new : Option (List ℕ)) : Type 0 where
  pub out : KeepsFront out_old out_new
  pub err : KeepsFront err_old err_new

-- No sink failed, and `out` has passed on all that it holds, where it had before
pub record NoSinkFailed (old new : Streams) : Type 0 where
  pub flushed : StaysFlushed old.out.held old.out.passed new.out.held new.out.passed
  pub out : new.out.faults ≡ old.out.faults
  pub err : new.err.faults ≡ old.err.faults

-- the count of one of two sinks rose
abbrev pub EitherRose : ℕ → ℕ → ℕ → ℕ → Type 0
EitherRose out out' err err' = Rose out out' ⊎ Rose err err'

abbrev pub SinkFailed : Streams → Streams → Type 0
SinkFailed old new = EitherRose old.out.faults new.out.faults old.err.faults new.err.faults

-- a call fails only where the count of one of its two sinks rose, and every other result leaves both
pub record HasSinkCause {T E : Type 0} (out out' err err' : ℕ) (result : Result T E) : Type 0 where
  pub quiet : OnOk result ((out' ≡ out) × (err' ≡ err))
  pub rose : OnErr result (EitherRose out out' err err')

module _ {M State : Type 0} (state : M → State) (listing : ListingView) (old new : Streams) (board board' : BoardView M) where
  -- By its book, `err` got a text, and each run that the first board shows is led on so.
  abbrev pub Prints : (Book → List ℕ → MicroRun State → List ℕ → Type 0) → Type 0
  Prints Leads =
      (book : Book) → IsBookOf listing book → (text : List ℕ) × Got old.err.held text new.err.held ×
      IsLedTo state old.input.left old.out.held board new.input.left board' (Leads book text)

  -- No sink failed: each run is led on, or a failing source stops it.
  pub record GoesThrough (Leads Stops : Book → List ℕ → MicroRun State → List ℕ → Type 0) : Type 0 where
    pub led : (board.end ≡ None → board'.end ≢ Some ends.ReadFault) → Prints Leads
    pub stopped : board.end ≡ None → board'.end ≡ Some ends.ReadFault → Prints Stops
    pub unbroken : board.end ≡ None → board'.end ≢ Some ends.WriteFault
    pub sinks : NoSinkFailed old new

  -- A sink failed: unless the source did too, each run is broken off.
  pub record IsBrokenOff (Breaks : Book → MicroRun State → List ℕ → Type 0) : Type 0 where
    pub breaks : (board.end ≡ None → board'.end ≢ Some ends.ReadFault) → (book : Book) → IsBookOf listing book →
        IsLedTo state old.input.left old.out.held board new.input.left board' (Breaks book)
    pub failed : SinkFailed old new
