-- How frames are driven over a console, a source and a sink, from boundary to boundary.
use Rattle.std.specs.Prelude.{◌≡◌, ◌≢◌, ℕ, ◌+◌, ◌≤◌, ◌<◌, List, [], ◌++◌, drop, Bool, true, Option, Some, None, IfSome, Result, Ok, Err, alloc_error}
use Rattle.ijvm_reference.specs.Common.{AllocError, Rose, Machine, ConsoleView, Given, TellsLeft, RunEnd, instr_at, SameFrames, State, Goes}
use Rattle.ijvm_reference.specs.Common.{step_outcome}
use Rattle.ijvm_reference.specs.Common.{timing_of, TimedImage, Point, Finish, EndsBy, Passes, point_after}
use Rattle.ijvm_reference.specs.declared.frames.StepEnd.{StepEnd}
use Rattle.ijvm_reference.specs.declared.frames.StepEnd.TheVariants as steps
use Rattle.ijvm_reference.specs.declared.frames.StepError.{StepError}
use Rattle.ijvm_reference.specs.declared.frames.StepError.TheVariants as errors
use Rattle.ijvm_meaning.specs.declared.run.RunEnd.TheVariants as defined
use Rattle.ijvm_reference.specs.declared.plain.PlainEnd.{PlainEnd}
use Rattle.ijvm_reference.specs.declared.plain.PlainEnd.TheVariants as ends
use Rattle.ijvm_reference.specs.declared.plain.Counts.{Counts}
use Rattle.ijvm_reference.specs.Machine.{MachineView, state_of}
use Rattle.ijvm_reference.specs.Kept.{Keeps}
use Rattle.ijvm_reference.specs.Steps.{IsMetBy, LedTo}

abbrev pub program_of : MachineView → Machine → TimedImage
program_of m machine = record { image = m.image; stack_end = m.stack_end; timing = timing_of machine }

-- a boundary, with these cycles and instructions done
abbrev pub point_at : MachineView → ℕ → ℕ → List ℕ → List ℕ → Point
point_at m cycles instructions untaken given = record { state = state_of m untaken given; cycles = cycles; instructions = instructions }

-- the sink holds all of these bytes but the last of those that the console kept
abbrev pub IsAllBut : Option (List ℕ) → List ℕ → List ℕ → Type 0
IsAllBut held kept given = IfSome held (λ h. (n : ℕ) × (h ++ drop n kept ≡ given))

-- a run stands with these counts, frames and bytes: its last boundary, the cycles and instructions done, and the state that is left
pub record StandsWith (last : Point) (cycles instructions : ℕ) (left : State) (c : Counts) (new : MachineView) (untaken given : List ℕ) : Type 0 where
  pub boundary : last.cycles ≡ c.boundary
  pub all : cycles ≡ c.cycles
  pub completed : instructions ≡ c.instructions
  pub frames : SameFrames last.state left
  pub left_is : left ≡ state_of new untaken given

-- the run that goes on so ends with these counts, frames and bytes
pub record RunEndsWith (p : TimedImage) (bound : ℕ) (from : Point) (c : Counts) (new : MachineView) (untaken given : List ℕ) : Type 0 where
  pub finish : Finish
  pub ends : EndsBy p bound from finish
  pub stands : StandsWith finish.last finish.cycles finish.instructions finish.left c new untaken given

-- one boundary after another, and what the console keeps at both
pub record GoesOn (told : Bool) (p : TimedImage) (bound : ℕ) (at next : Point) (c c' : ConsoleView) : Type 0 where
  pub under : at.cycles < bound
  pub goes : step_outcome p.image p.stack_end at.state ≡ Goes next.state
  pub counts : next ≡ point_after p at next.state
  pub keeps : Keeps told (instr_at p.image.text at.state.at) at.state.untaken c c'

-- the boundaries that the run from this one passes before it ends, with what the console keeps there
pub data Reaches (told : Bool) (p : TimedImage) (bound : ℕ) (from : Point) (c0 : ConsoleView) : Point → ConsoleView → Type 0 where
  Begins : (at : Point) (c : ConsoleView) → at ≡ from → c ≡ c0 → Reaches told p bound from c0 at c
  Onward : (at next : Point) (c c' : ConsoleView) → Reaches told p bound from c0 at c → GoesOn told p bound at next c c' → Reaches told p bound from c0 next c'

-- The run is cut at this boundary, with these counts, frames and bytes: its instruction there meets this. After a write that failed the sink
-- holds all that was given there but the last of what the console kept.
pub record IsCutAt (e : StepError) (held : Option (List ℕ)) (p : TimedImage) (bound : ℕ) (at : Point) (console : ConsoleView)
    (c : Counts) (new : MachineView) (untaken given : List ℕ) : Type 0 where
  pub under : at.cycles < bound
  pub met : IsMetBy e (instr_at p.image.text at.state.at) console
  pub stands : StandsWith at at.cycles at.instructions at.state c new untaken given
  pub lost : e ≡ errors.WriteFault → IsAllBut held console.kept given

-- the run that goes on so passes a boundary, and is cut there
pub record IsCut (e : StepError) (told : Bool) (c0 : ConsoleView) (held : Option (List ℕ)) (p : TimedImage) (bound : ℕ)
    (from : Point) (c : Counts) (new : MachineView) (untaken given : List ℕ) : Type 0 where
  pub at : Point
  pub console : ConsoleView
  pub reaches : Reaches told p bound from c0 at console
  pub cut : IsCutAt e held p bound at console c new untaken given

-- an end of the definition's run
abbrev pub EndsIn : RunEnd → TimedImage → ℕ → Point → Counts → MachineView → List ℕ → List ℕ → Type 0
EndsIn end p bound from c new untaken given = (e : RunEndsWith p bound from c new untaken given) × (e.finish.end ≡ end)

-- where a run stops: at an end of the definition's, or where a fault or a lack of memory cuts it
abbrev pub StoppedBy : Bool → ConsoleView → Option (List ℕ) → Result PlainEnd AllocError → TimedImage → ℕ → Point → Counts → MachineView → List ℕ →
    List ℕ → Type 0
StoppedBy told c0 held (Ok ends.Halt) = EndsIn defined.Halt
StoppedBy told c0 held (Ok ends.Err) = EndsIn defined.Err
StoppedBy told c0 held (Ok ends.Bound) = EndsIn defined.Bound
StoppedBy told c0 held (Ok ends.StackLimit) = EndsIn defined.StackLimit
StoppedBy told c0 held (Ok ends.ReadFault) = IsCut errors.ReadFault told c0 held
StoppedBy told c0 held (Ok ends.WriteFault) = IsCut errors.WriteFault told c0 held
StoppedBy told c0 held (Err e) = IsCut errors.OutOfMemory told c0 held

-- where a step's error stops the run
abbrev pub cut_by : StepError → Result PlainEnd AllocError
cut_by errors.ReadFault = Ok ends.ReadFault
cut_by errors.WriteFault = Ok ends.WriteFault
cut_by errors.OutOfMemory = Err alloc_error

-- the bytes that were given, as the sink and the console show them: after a fault of the sink it holds a front of them
abbrev pub IsShown : Result PlainEnd AllocError → Option (List ℕ) → List ℕ → List ℕ → Type 0
IsShown (Ok ends.WriteFault) held kept given = IfSome held (λ h. (more : List ℕ) × (given ≡ h ++ more))
IsShown stop held kept given = Given held kept given

-- the bytes that were given, as they are shown at a stop, or where the run may go on
abbrev pub ShownBy : Option (Result PlainEnd AllocError) → Option (List ℕ) → List ℕ → List ℕ → Type 0
ShownBy None held kept given = Given held kept given
ShownBy (Some stop) held kept given = IsShown stop held kept given

-- a turn of the run: on to the next boundary, or to its stop
abbrev pub TurnsTo : Bool → Option (Result PlainEnd AllocError) → ℕ → Machine → Counts → Counts → ConsoleView →
    ConsoleView → Option (List ℕ) → MachineView → MachineView →
    List ℕ → List ℕ → List ℕ → List ℕ → Type 0
TurnsTo told None bound machine old_counts counts c c' held' old new untaken given untaken' given' =
    GoesOn told (program_of old machine) bound (point_at old old_counts.cycles old_counts.instructions untaken given)
    (point_at new counts.cycles counts.instructions untaken' given') c c'
TurnsTo told (Some stop) bound machine old_counts counts c c' held' old new untaken given untaken' given' =
    StoppedBy told c held' stop (program_of old machine) bound (point_at old old_counts.cycles old_counts.instructions untaken given) counts new untaken' given'

-- Frames are driven over a console, a source and a sink, by a turn or by turns up to a stop, whether or not it is known what the source has left.
abbrev pub IsDriven : Option (Result PlainEnd AllocError) → ℕ → Machine → Counts → Counts → Option (List ℕ) →
    Option (List ℕ) → ConsoleView → Option (List ℕ) → Option (List ℕ) → ConsoleView →
    MachineView → MachineView → Type 0
IsDriven stop bound machine old_counts counts left held c left' held' c' old new =
    (told : Bool) → (told ≡ true → TellsLeft left c.ended) →
    LedTo (ShownBy stop) left held c left' held' c' (TurnsTo told stop bound machine old_counts counts c c' held' old new)

-- the counts at a boundary
pub record IsAtBoundary (c : Counts) : Type 0 where
  pub boundary : c.boundary ≡ c.cycles
  pub few : c.instructions ≤ c.cycles

-- from one boundary to the next
pub record ComesFurther (bound : ℕ) (c c' : Counts) : Type 0 where
  pub under : c.cycles < bound
  pub more : c.cycles + 1 ≤ c'.cycles
  pub next : IsAtBoundary c'

-- the counts after a step of this cost that ended so
abbrev pub counts_after : StepEnd → ℕ → Counts → Counts
counts_after steps.Went cost c = record { boundary = c.cycles + cost; cycles = c.cycles + cost; instructions = c.instructions + 1 }
counts_after steps.StackLimit cost c = c
counts_after end cost c = record c { cycles = c.cycles + cost; instructions = c.instructions + 1 }

-- the stop that it makes
abbrev pub stop_by : StepEnd → Option (Result PlainEnd AllocError)
stop_by steps.Went = None
stop_by steps.Halt = Some (Ok ends.Halt)
stop_by steps.Err = Some (Ok ends.Err)
stop_by steps.StackLimit = Some (Ok ends.StackLimit)

-- after a fault nothing is kept
pub record IsEmptied (stop : Option (Result PlainEnd AllocError)) (c : ConsoleView) : Type 0 where
  pub read : stop ≡ Some (Ok ends.ReadFault) → c.kept ≡ []
  pub write : stop ≡ Some (Ok ends.WriteFault) → c.kept ≡ []

-- a fault comes only where its object's count rose, and each count stays otherwise
pub record HasRunCause (source source' sink sink' : ℕ) (stop : Option (Result PlainEnd AllocError)) : Type 0 where
  pub source_later : source ≤ source'
  pub sink_later : sink ≤ sink'
  pub read : stop ≡ Some (Ok ends.ReadFault) → Rose source source'
  pub write : stop ≡ Some (Ok ends.WriteFault) → Rose sink sink'
  pub source_same : stop ≢ Some (Ok ends.ReadFault) → source' ≡ source
  pub sink_same : stop ≢ Some (Ok ends.WriteFault) → sink' ≡ sink

abbrev pub EndsByCause : {S K : Type 0} → (S → ℕ) → (K → ℕ) → S → K → S → K → Option (Result PlainEnd AllocError) → Type 0
EndsByCause source_faults sink_faults source sink source' sink' stop =
    HasRunCause (source_faults source) (source_faults source') (sink_faults sink) (sink_faults sink') stop

-- The boundaries at which a run is followed are those that the definition's run passes, whatever the console keeps at first.

abbrev pub ReachedArePassed : Type 0
ReachedArePassed =
    (told : Bool) (p : TimedImage) (bound : ℕ) (from : Point) (first : ConsoleView) (at : Point) (console : ConsoleView) →
    Reaches told p bound from first at console → Passes p bound from at

abbrev pub PassedAreReached : Type 0
PassedAreReached =
    (told : Bool) (p : TimedImage) (bound : ℕ) (from : Point) (first : ConsoleView) (at : Point) →
    Passes p bound from at → (console : ConsoleView) × Reaches told p bound from first at console
