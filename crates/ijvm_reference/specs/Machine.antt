-- The plain machine: frames over an image. The console's bytes are not in it.
use Rattle.std.specs.Prelude.{◌≡◌, ◌≤◌, ◌<◌, ℕ, ◌&&◌, Bool, true, false, nat_lt, List, [], ◌∷◌, length, ◌+◌, ◌-◌, ℤ, slice_get, slice_set, Option, Some, None, Result, IfOk, bit_and, bit_or}
use Rattle.ijvm_reference.specs.Common.{AllocError, Instr, In, Out, Err, Halt, Method, instr_at, ImageView, method_at, Frame, State, start_of, base, IsWord}
use Rattle.ijvm_reference.specs.Common.{StepOutcome, Goes, Limits, Stuck, is_own, in_method, pushed_constant, loaded, increased, called_at, plus, minus}
use Rattle.ijvm_reference.specs.declared.compute.Operator.{Operator}
use Rattle.ijvm_reference.specs.declared.compute.Operator.TheVariants as operators
use Rattle.ijvm_reference.specs.declared.compute.Effect.{Effect}
use Rattle.ijvm_reference.specs.declared.compute.Effect.TheVariants as effects

pub record MachineView : Type 0 where
  pub image : ImageView
  pub stack_end : ℕ
  pub running : Frame
  -- the nearest first
  pub callers : List Frame
  pub at : ℕ

-- the state, with these bytes of the console
abbrev pub state_of : MachineView → List ℕ → List ℕ → State
state_of m untaken given = record { running = m.running; callers = m.callers; at = m.at; untaken = untaken; given = given }

-- the machine with this state's frames and address
abbrev pub machine_at : ImageView → ℕ → State → MachineView
machine_at image stack_end s = record { image = image; stack_end = stack_end; running = s.running; callers = s.callers; at = s.at }

-- the start of a run, with this many locals of main
abbrev pub started : ImageView → ℕ → ℕ → MachineView
started image stack_end main_locals = machine_at image stack_end (start_of main_locals [])

-- where the frames lie: the running one begins at this word address, and all end before the stack's end
pub record ArePlaced (stack_end lv : ℕ) (running : Frame) (callers : List Frame) : Type 0 where
  pub begins : lv ≡ base callers
  pub fits : base (running ∷ callers) ≤ stack_end
  pub word : IsWord stack_end

-- the same image, and the same end of the stack
pub record KeepsProgram (old new : MachineView) : Type 0 where
  pub image : new.image ≡ old.image
  pub stack_end : new.stack_end ≡ old.stack_end

-- the machine in a method that is called with the last operands
abbrev pub in_call : MachineView → Method → MachineView
in_call m method = machine_at m.image m.stack_end (in_method (state_of m [] []) method (method.params - 1))

-- the machine that has returned a value to a caller, at this address
abbrev pub in_caller : MachineView → ℕ → ℕ → Frame → List Frame → MachineView
in_caller m back value f fs = record m { running = record f { operands = value ∷ f.operands }; callers = fs; at = back }

-- the machine with other operands
abbrev pub with_operands : MachineView → List ℕ → MachineView
with_operands m operands = record m { running = record m.running { operands = operands } }

-- the machine with another value of a local
abbrev pub with_local : MachineView → ℕ → ℕ → MachineView
with_local m k v = record m { running = record m.running { locals = slice_set m.running.locals k (Some v) } }

-- the machine has returned a value to its nearest caller, at this address
abbrev pub Returns : ℕ → ℕ → MachineView → MachineView → Type 0
Returns back value old new = (f : Frame) (fs : List Frame) → old.callers ≡ f ∷ fs → new ≡ in_caller old back value f fs

-- the instruction that comes next
abbrev pub next_instr : MachineView → Option Instr
next_instr m = instr_at m.image.text m.at

-- a local that an instruction may store to
abbrev pub has_own : Frame → ℕ → Bool
has_own f k = is_own f.back k && nat_lt k (length f.locals)

-- the last operand leaves, if there is one
abbrev pub Pops : Option ℕ → Frame → Frame → Type 0
Pops None old new = (old.operands ≡ []) × (new ≡ old)
Pops (Some v) old new = old ≡ record new { operands = v ∷ new.operands }

-- a value is stored to a local, if that is its own
abbrev pub Stores : Bool → ℕ → ℕ → Frame → Frame → Type 0
Stores true k v old new = (has_own old k ≡ true) × (new ≡ record old { locals = slice_set old.locals k (Some v) })
Stores false k v old new = (has_own old k ≡ false) × (new ≡ old)

-- what an effect is, of the state that it leaves
abbrev pub outcome_of : Effect → State → StepOutcome
outcome_of effects.Went s = Goes s
outcome_of effects.StackLimit s = Limits s
outcome_of effects.Stuck s = Stuck

-- the old machine has this outcome, which leaves the new one; the console's bytes stay
abbrev pub Leads : (State → StepOutcome) → Effect → MachineView → MachineView → Type 0
Leads does effect old new = (untaken given : List ℕ) → does (state_of old untaken given) ≡ outcome_of effect (state_of new untaken given)

-- `Leads` for an instruction that may run out of memory
abbrev pub LeadsBy : Result Effect AllocError → (State → StepOutcome) → MachineView → MachineView → Type 0
LeadsBy result does old new = IfOk result (λ effect. Leads does effect old new)

-- What an instruction on a constant, a local or a method of the machine does, by its index.

abbrev pub constant_pushed : MachineView → ℕ → State → StepOutcome
constant_pushed m index s = pushed_constant m.stack_end s (slice_get m.image.pool index)

abbrev pub local_loaded : MachineView → ℕ → ℕ → State → StepOutcome
local_loaded m index size s = loaded m.stack_end s (slice_get m.running.locals index) (s.at + size)

abbrev pub local_increased : ℕ → ℤ → ℕ → State → StepOutcome
local_increased index by size s = increased s index by (slice_get s.running.locals index) (s.at + size)

abbrev pub method_called : MachineView → ℕ → State → StepOutcome
method_called m index s = called_at m.stack_end s (method_at m.image.text (slice_get m.image.pool index))

abbrev pub operate : Operator → ℕ → ℕ → ℕ
operate operators.Add second top = plus second top
operate operators.Subtract second top = minus second top
operate operators.And second top = bit_and second top
operate operators.Or second top = bit_or second top

-- the first two of a list exchanged
abbrev pub IsSwapped : List ℕ → List ℕ → Type 0
IsSwapped old new = (y : ℕ) × (x : ℕ) × (rest : List ℕ) × (old ≡ y ∷ x ∷ rest) × (new ≡ x ∷ y ∷ rest)

-- the last two operands are exchanged, if there are two
abbrev pub Swaps : Bool → Frame → Frame → Type 0
Swaps true old new = IsSwapped old.operands new.operands × (new ≡ record old { operands = new.operands })
Swaps false old new = (length old.operands < 2) × (new ≡ old)

-- an instruction that neither needs the console nor ends the run
abbrev pub IsComputed : Instr → Type 0
IsComputed In = ⊥
IsComputed Out = ⊥
IsComputed Err = ⊥
IsComputed Halt = ⊥
IsComputed i = Unit {0}
