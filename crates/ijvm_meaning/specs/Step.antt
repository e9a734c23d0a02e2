-- What one instruction does to frames. Sums are modulo 2^32.
use Rattle.std.specs.Prelude.{ℕ, zero, suc, ◌+◌, ◌%◌, Bool, true, false, if◌then◌else◌, nat_lt, nat_le, ◌==◌, List, [], ◌∷◌, ◌++◌, length, take, drop, replicate, slice_get, slice_set, Option, Some, None, ℤ, bit_and, bit_or}
use Rattle.ijvm_meaning.specs.Common.{plus, minus, is_negative, next_byte, Instr, Method, word_of, target, instr_at, ImageView, method_at}
use Rattle.ijvm_instr.specs.declared.instr.Instr.TheVariants.{Nop, Bipush, LdcW, Iload, Istore, Pop, Dup, Swap, Iadd, Isub, Iand, Iinc, Ifeq, Iflt, IfIcmpeq, Goto, Ireturn, Ior, Invokevirtual, WideIload, WideIstore, WideIinc, In, Out, Err, Halt}
use Rattle.ijvm_meaning.specs.Frames.{Frame, State, frames_of, base}

pub data StepOutcome : Type 0 where
  Goes : (to : State) → StepOutcome
  Halts : StepOutcome
  Errs : StepOutcome
  -- the stack would reach its end; the state that is left
  Limits : (left : State) → StepOutcome
  -- an instruction, operand, constant, method, local or caller is missing
  Stuck : StepOutcome

-- Only a push and a call can raise SP: they go on where the new SP is below the stack's end.
abbrev pub limited : ℕ → State → State → StepOutcome
limited stack_end left to = if nat_le (base (frames_of to)) stack_end then Goes to else Limits left

-- these operands, at this address
abbrev pub moved : State → List ℕ → ℕ → State
moved s operands to = record s { running = record s.running { operands = operands }; at = to }

abbrev pub pushed : ℕ → State → ℕ → ℕ → StepOutcome
pushed stack_end s v to = limited stack_end s (moved s (v ∷ s.running.operands) to)

abbrev pub pushed_constant : ℕ → State → Option ℕ → StepOutcome
pushed_constant stack_end s None = Stuck
pushed_constant stack_end s (Some v) = pushed stack_end s v (s.at + 3)

-- a local, if the frame has it and it is set
abbrev pub loaded : ℕ → State → Option (Option ℕ) → ℕ → StepOutcome
loaded stack_end s None to = Stuck
loaded stack_end s (Some None) to = Stuck
loaded stack_end s (Some (Some v)) to = pushed stack_end s v to

-- local 0 of a method's frame is its link word
abbrev pub is_own : Option ℕ → ℕ → Bool
is_own None k = true
is_own (Some back) zero = false
is_own (Some back) (suc k) = true

abbrev pub with_local : State → ℕ → ℕ → List ℕ → ℕ → State
with_local s k v operands to =
    record s { running = record s.running { locals = slice_set s.running.locals k (Some v); operands = operands }; at = to }

abbrev pub stored : State → ℕ → List ℕ → ℕ → StepOutcome
stored s k [] to = Stuck
stored s k (v ∷ rest) to =
    if is_own s.running.back k then (if nat_lt k (length s.running.locals) then Goes (with_local s k v rest to) else Stuck) else Stuck

-- a local with this number added, if the frame has it and it is set
abbrev pub increased : State → ℕ → ℤ → Option (Option ℕ) → ℕ → StepOutcome
increased s k n None to = Stuck
increased s k n (Some None) to = Stuck
increased s k n (Some (Some v)) to = Goes (with_local s k (plus v (word_of n)) s.running.operands to)

abbrev pub popped : State → List ℕ → StepOutcome
popped s [] = Stuck
popped s (y ∷ rest) = Goes (moved s rest (s.at + 1))

abbrev pub doubled : ℕ → State → List ℕ → StepOutcome
doubled stack_end s [] = Stuck
doubled stack_end s (y ∷ rest) = pushed stack_end s y (s.at + 1)

abbrev pub swapped : State → List ℕ → StepOutcome
swapped s [] = Stuck
swapped s (y ∷ []) = Stuck
swapped s (y ∷ x ∷ rest) = Goes (moved s (x ∷ y ∷ rest) (s.at + 1))

-- the second operand and the top in the place of both
abbrev pub combined : (ℕ → ℕ → ℕ) → State → List ℕ → StepOutcome
combined f s [] = Stuck
combined f s (y ∷ []) = Stuck
combined f s (y ∷ x ∷ rest) = Goes (moved s (f x y ∷ rest) (s.at + 1))

-- the address that a branch goes on to
abbrev pub way : ℕ → ℤ → Bool → ℕ
way at o taken = if taken then target at o else at + 3

abbrev pub branched : (ℕ → Bool) → State → ℤ → List ℕ → StepOutcome
branched test s o [] = Stuck
branched test s o (y ∷ rest) = Goes (moved s rest (way s.at o (test y)))

abbrev pub compared : State → ℤ → List ℕ → StepOutcome
compared s o [] = Stuck
compared s o (y ∷ []) = Stuck
compared s o (y ∷ x ∷ rest) = Goes (moved s rest (way s.at o (x == y)))

abbrev pub returned : State → Option ℕ → List Frame → List ℕ → StepOutcome
returned s None callers operands = Stuck
returned s (Some back) [] operands = Stuck
returned s (Some back) (f ∷ fs) [] = Stuck
returned s (Some back) (f ∷ fs) (y ∷ rest) = Goes (record s { running = record f { operands = y ∷ f.operands }; callers = fs; at = back })

-- these parameters, the last one first, in front of these locals
abbrev pub onto : List ℕ → List (Option ℕ) → List (Option ℕ)
onto [] locals = locals
onto (p ∷ ps) locals = onto ps (Some p ∷ locals)

-- a method's frame with these parameters, the last one first, and this many other locals, none of which is set
abbrev pub called : List ℕ → ℕ → ℕ → Frame
called ps others back = record { locals = None ∷ onto ps (replicate others None); operands = []; back = Some back }

-- the state in a method with n parameters besides the object reference
abbrev pub in_method : State → Method → ℕ → State
in_method s m n =
    record s {
      running = called (take n s.running.operands) m.others (s.at + 3);
      callers = record s.running { operands = drop (n + 1) s.running.operands } ∷ s.callers;
      at = m.entry + 4;
    }

abbrev pub entered : ℕ → State → Method → ℕ → StepOutcome
entered stack_end s m zero = Stuck
entered stack_end s m (suc n) = if nat_lt n (length s.running.operands) then limited stack_end s (in_method s m n) else Stuck

abbrev pub called_at : ℕ → State → Option Method → StepOutcome
called_at stack_end s None = Stuck
called_at stack_end s (Some m) = entered stack_end s m m.params

-- without the byte that a read of the console takes
abbrev pub taken : State → State
taken s = record s { untaken = drop 1 s.untaken }

-- a byte is taken before the stack's end is met
abbrev pub read_in : ℕ → State → StepOutcome
read_in stack_end s = pushed stack_end (taken s) (next_byte s.untaken) (s.at + 1)

abbrev pub given_out : State → List ℕ → StepOutcome
given_out s [] = Stuck
given_out s (y ∷ rest) = Goes (record (moved s rest (s.at + 1)) { given = s.given ++ (y % 256) ∷ [] })

abbrev pub step : ImageView → ℕ → Instr → State → StepOutcome
step image stack_end Nop s = Goes (moved s s.running.operands (s.at + 1))
step image stack_end (Bipush b) s = pushed stack_end s (word_of b) (s.at + 2)
step image stack_end (LdcW k) s = pushed_constant stack_end s (slice_get image.pool k)
step image stack_end (Iload k) s = loaded stack_end s (slice_get s.running.locals k) (s.at + 2)
step image stack_end (Istore k) s = stored s k s.running.operands (s.at + 2)
step image stack_end Pop s = popped s s.running.operands
step image stack_end Dup s = doubled stack_end s s.running.operands
step image stack_end Swap s = swapped s s.running.operands
step image stack_end Iadd s = combined plus s s.running.operands
step image stack_end Isub s = combined minus s s.running.operands
step image stack_end Iand s = combined bit_and s s.running.operands
step image stack_end (Iinc k b) s = increased s k b (slice_get s.running.locals k) (s.at + 3)
step image stack_end (Ifeq o) s = branched (λ y. y == 0) s o s.running.operands
step image stack_end (Iflt o) s = branched is_negative s o s.running.operands
step image stack_end (IfIcmpeq o) s = compared s o s.running.operands
step image stack_end (Goto o) s = Goes (moved s s.running.operands (target s.at o))
step image stack_end Ireturn s = returned s s.running.back s.callers s.running.operands
step image stack_end Ior s = combined bit_or s s.running.operands
step image stack_end (Invokevirtual k) s = called_at stack_end s (method_at image.text (slice_get image.pool k))
step image stack_end (WideIload k) s = loaded stack_end s (slice_get s.running.locals k) (s.at + 4)
step image stack_end (WideIstore k) s = stored s k s.running.operands (s.at + 4)
step image stack_end (WideIinc k n) s = increased s k n (slice_get s.running.locals k) (s.at + 6)
step image stack_end In s = read_in stack_end s
step image stack_end Out s = given_out s s.running.operands
step image stack_end Err s = Errs
step image stack_end Halt s = Halts

abbrev pub step_if_any : ImageView → ℕ → State → Option Instr → StepOutcome
step_if_any image stack_end s None = Stuck
step_if_any image stack_end s (Some i) = step image stack_end i s

-- what the instruction at this state's address does
abbrev pub step_outcome : ImageView → ℕ → State → StepOutcome
step_outcome image stack_end s = step_if_any image stack_end s (instr_at image.text s.at)
