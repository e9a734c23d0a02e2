-- A step of frames over a console, a source and a sink is the definition's `outcome`, where what these have left and hold are the state's
-- untaken and given bytes.
use Rattle.std.specs.Prelude.{◌≡◌, ◌≢◌, ℕ, ◌≤◌, List, [], false, Option, Some, None, Result, Err, IsSome, IfOk, IfErr, IsErrOf}
use Rattle.ijvm_reference.specs.Common.{Rose, ConsoleView, Untaken, Given, IsLost, Instr, In, Out, State, StepOutcome, Goes, Halts, Errs, Limits, Stuck}
use Rattle.ijvm_reference.specs.Common.{given_out, step_outcome}
use Rattle.ijvm_reference.specs.declared.frames.StepEnd.{StepEnd}
use Rattle.ijvm_reference.specs.declared.frames.StepEnd.TheVariants as ends
use Rattle.ijvm_reference.specs.declared.frames.StepError.{StepError}
use Rattle.ijvm_reference.specs.declared.frames.StepError.TheVariants as errors
use Rattle.ijvm_reference.specs.declared.compute.Effect.{Effect}
use Rattle.ijvm_reference.specs.declared.compute.Effect.TheVariants as effects
use Rattle.ijvm_reference.specs.Machine.{MachineView, state_of, outcome_of}
use Rattle.ijvm_reference.specs.Kept.{PutsKept}

-- Whatever may be left untaken after, something may have been left before it from which a step or a run leads there, whatever was given. It
-- leads from untaken and given bytes to untaken and given bytes, and the given bytes are shown so after it.
abbrev pub LedTo : (Option (List ℕ) → List ℕ → List ℕ → Type 0) → Option (List ℕ) → Option (List ℕ) → ConsoleView →
    Option (List ℕ) → Option (List ℕ) → ConsoleView →
    (List ℕ → List ℕ → List ℕ → List ℕ → Type 0) → Type 0
LedTo shown left held c left' held' c' leads =
    (rest : List ℕ) → Untaken left' c'.ended rest →
    (untaken : List ℕ) × Untaken left c.ended untaken ×
    ((given : List ℕ) → Given held c.kept given → (more : List ℕ) × shown held' c'.kept more × leads untaken given rest more)

-- the same, where the sink and the console show all that was given
abbrev pub IsLedOn : Option (List ℕ) → Option (List ℕ) → ConsoleView → Option (List ℕ) → Option (List ℕ) → ConsoleView →
    (List ℕ → List ℕ → List ℕ → List ℕ → Type 0) → Type 0
IsLedOn left held c left' held' c' leads = LedTo Given left held c left' held' c' leads

-- the outcome of an instruction over the console
abbrev pub LedBy : (State → StepOutcome) → Option (List ℕ) → Option (List ℕ) → ConsoleView → Option (List ℕ) →
    Option (List ℕ) → ConsoleView → MachineView → MachineView → Effect → Type 0
LedBy does left held c left' held' c' old new effect =
    IsLedOn left held c left' held' c' (λ u g u' g'. does (state_of old u g) ≡ outcome_of effect (state_of new u' g'))

abbrev pub step_end : Effect → Option StepEnd
step_end effects.Went = Some ends.Went
step_end effects.StackLimit = Some ends.StackLimit
step_end effects.Stuck = None

-- what each end of a step means
abbrev pub Does : StepEnd → MachineView → MachineView → List ℕ → List ℕ → List ℕ → List ℕ → Type 0
Does ends.Went old new untaken given untaken' given' = step_outcome old.image old.stack_end (state_of old untaken given) ≡ Goes (state_of new untaken' given')
Does ends.Halt old new untaken given untaken' given' =
    (step_outcome old.image old.stack_end (state_of old untaken given) ≡ Halts) × (state_of new untaken' given' ≡ state_of old untaken given)
Does ends.Err old new untaken given untaken' given' =
    (step_outcome old.image old.stack_end (state_of old untaken given) ≡ Errs) × (state_of new untaken' given' ≡ state_of old untaken given)
Does ends.StackLimit old new untaken given untaken' given' =
    step_outcome old.image old.stack_end (state_of old untaken given) ≡ Limits (state_of new untaken' given')

-- the outcome of an instruction: an end of a step, or none where the machine is stuck
abbrev pub Turns : Option StepEnd → MachineView → MachineView → List ℕ → List ℕ → List ℕ → List ℕ → Type 0
Turns None old new untaken given untaken' given' = step_outcome old.image old.stack_end (state_of old untaken given) ≡ Stuck
Turns (Some end) old new untaken given untaken' given' = Does end old new untaken given untaken' given'

-- where an instruction was done, and the machine was not stuck
abbrev pub IfTurned : {E : Type 0} → Result (Option StepEnd) E → Type 0 → Type 0
IfTurned result Holds = IfOk result (λ end. IsSome end → Holds)

-- after an Err the console's bytes are as they were, unless a write failed
pub record IsCutOff (left held : Option (List ℕ)) (c : ConsoleView) (left' held' : Option (List ℕ)) (c' : ConsoleView) (e : StepError) : Type 0 where
  pub untaken : left' ≡ left
  pub ended : c'.ended ≡ c.ended
  pub given : e ≢ errors.WriteFault → (given : List ℕ) → Given held c.kept given → Given held' c'.kept given
  pub lost : e ≡ errors.WriteFault → IsLost held c.kept held' c'.kept
  -- after a fault nothing is kept
  pub emptied : e ≢ errors.OutOfMemory → c'.kept ≡ []

-- the instruction at which an Err comes, over this console: the source is asked only by IN, and the sink gets what the console keeps
pub record IsMetBy (e : StepError) (i : Option Instr) (c : ConsoleView) : Type 0 where
  pub read : e ≡ errors.ReadFault → (i ≡ Some In) × (c.ended ≡ false)
  pub write : e ≡ errors.WriteFault → PutsKept i c

-- a step that failed at this instruction, over this console: the machine is as it was
pub record StepFails (i : Option Instr) (left held : Option (List ℕ)) (c : ConsoleView) (left' held' : Option (List ℕ)) (c' : ConsoleView)
    (old new : MachineView) (e : StepError) : Type 0 where
  pub met : IsMetBy e i c
  pub frames : new ≡ old
  pub cut : IsCutOff left held c left' held' c' e

-- a fault comes only where its object's count rose, and each count stays otherwise
pub record HasStepCause {T : Type 0} (source source' sink sink' : ℕ) (result : Result T StepError) : Type 0 where
  pub source_later : source ≤ source'
  pub sink_later : sink ≤ sink'
  pub read : IsErrOf result errors.ReadFault → Rose source source'
  pub write : IsErrOf result errors.WriteFault → Rose sink sink'
  pub source_same : result ≢ Err errors.ReadFault → source' ≡ source
  pub sink_same : result ≢ Err errors.WriteFault → sink' ≡ sink

-- The relations above over a source and a sink, or over a sink alone, whatever a source may have left.

abbrev pub CutsOff : {S K T : Type 0} → (S → Option (List ℕ)) → (K → Option (List ℕ)) → S → K → ConsoleView → S → K → ConsoleView → Result T StepError → Type 0
CutsOff left held source sink c source' sink' c' result = IfErr result (IsCutOff (left source) (held sink) c (left source') (held sink') c')

abbrev pub CutsOffSink : {K T : Type 0} → (K → Option (List ℕ)) → K → ConsoleView → K → ConsoleView → Result T StepError → Type 0
CutsOffSink held sink c sink' c' result = (left : Option (List ℕ)) → IfErr result (IsCutOff left (held sink) c left (held sink') c')

abbrev pub GivesOut : {K : Type 0} → (K → Option (List ℕ)) → K → ConsoleView → MachineView → K → ConsoleView → MachineView → Result Effect StepError → Type 0
GivesOut held sink c old sink' c' new result =
    (left : Option (List ℕ)) → IfOk result (LedBy (λ s. given_out s old.running.operands) left (held sink) c left (held sink') c' old new)

abbrev pub FailsToGive : {K : Type 0} → (K → Option (List ℕ)) → K → ConsoleView → MachineView → K → ConsoleView → MachineView → Result Effect StepError → Type 0
FailsToGive held sink c old sink' c' new result =
    (left : Option (List ℕ)) → IfErr result (StepFails (Some Out) left (held sink) c left (held sink') c' old new)

abbrev pub FailsByCause : {S K T : Type 0} → (S → ℕ) → (K → ℕ) → S → K → S → K → Result T StepError → Type 0
FailsByCause source_faults sink_faults source sink source' sink' result =
    HasStepCause (source_faults source) (source_faults source') (sink_faults sink) (sink_faults sink') result
