-- What each instruction finds in a state, and the state that it leads to: the step of the definition, read from its end.
use Rattle.std.specs.Prelude.{◌≡◌, ℕ, suc, ◌+◌, ◌<◌, ◌≤◌, ◌%◌, ◌==◌, true, List, [], ◌∷◌, ◌++◌, length, slice_get, Option, Some, bit_and, bit_or}
use Rattle.ijvm_simulation.specs.Common.{plus, minus, is_negative, next_byte, Instr, word_of, target, Method, ImageView, method_at, Frame, State, frames_of}
use Rattle.ijvm_simulation.specs.Common.{base, StepOutcome, Goes, Halts, Errs, Limits, Stuck, is_own, moved, with_local, way, in_method, taken}
use Rattle.ijvm_instr.specs.declared.instr.Instr.TheVariants.{Nop, Bipush, LdcW, Iload, Istore, Pop, Dup, Swap, Iadd, Isub, Iand, Iinc, Ifeq, Iflt, IfIcmpeq, Goto, Ireturn, Ior, Invokevirtual, WideIload, WideIstore, WideIinc, In, Out, Err, Halt}

-- the operands have a top, and this holds of it and of those below it
pub record WithTop (operands : List ℕ) (Leads : ℕ → List ℕ → Type 0) : Type 0 where
  pub top : ℕ
  pub rest : List ℕ
  pub are : operands ≡ top ∷ rest
  pub leads : Leads top rest

-- the operands have a top and a second one, and this holds of both and of those below them
pub record WithTwo (operands : List ℕ) (Leads : ℕ → ℕ → List ℕ → Type 0) : Type 0 where
  pub top : ℕ
  pub second : ℕ
  pub rest : List ℕ
  pub are : operands ≡ top ∷ second ∷ rest
  pub leads : Leads top second rest

-- this local exists and is set, to a word of which this holds
pub record WithLocal (locals : List (Option ℕ)) (k : ℕ) (Leads : ℕ → Type 0) : Type 0 where
  pub value : ℕ
  pub set : slice_get locals k ≡ Some (Some value)
  pub leads : Leads value

-- this constant exists, and this holds of it
pub record WithConstant (pool : List ℕ) (k : ℕ) (Leads : ℕ → Type 0) : Type 0 where
  pub value : ℕ
  pub found : slice_get pool k ≡ Some value
  pub leads : Leads value

-- the method of this constant exists, and as many operands as it has parameters besides the object reference; this holds of them
pub record WithMethod (image : ImageView) (s : State) (k : ℕ) (Leads : Method → ℕ → Type 0) : Type 0 where
  pub method : Method
  pub others : ℕ
  pub found : method_at image.text (slice_get image.pool k) ≡ Some method
  pub params : method.params ≡ suc others
  pub enough : others < length s.running.operands
  pub leads : Leads method others

-- a caller waits for a method's value
pub record Returns (s to : State) : Type 0 where
  pub back : ℕ
  pub caller : Frame
  pub above : List Frame
  pub back_is : s.running.back ≡ Some back
  pub callers_are : s.callers ≡ caller ∷ above
  pub with_top : WithTop s.running.operands (λ y rest. record s { running = record caller { operands = y ∷ caller.operands }; callers = above; at = back } ≡ to)

-- a local of the frame is stored to that is not its link word
pub record Stores (s : State) (k v : ℕ) (rest : List ℕ) (at : ℕ) (to : State) : Type 0 where
  pub own : is_own s.running.back k ≡ true
  pub inside : k < length s.running.locals
  pub goes : with_local s k v rest at ≡ to

-- the stack has room for this state, to which the instruction leads
pub record Fits (stack_end : ℕ) (next to : State) : Type 0 where
  pub fits : base (frames_of next) ≤ stack_end
  pub goes : next ≡ to

-- the stack has no room for this state, and another is left
pub record Overflows (stack_end : ℕ) (next left to : State) : Type 0 where
  pub over : stack_end < base (frames_of next)
  pub leaves : left ≡ to

-- these operands with one more, at this address
abbrev pub push : State → ℕ → ℕ → State
push s v at = moved s (v ∷ s.running.operands) at

module _ (image : ImageView) (stack_end : ℕ) (s : State) where
  -- an instruction leads to this state
  abbrev pub Went : State → Instr → Type 0
  Went to Nop = moved s s.running.operands (s.at + 1) ≡ to
  Went to (Bipush b) = Fits stack_end (push s (word_of b) (s.at + 2)) to
  Went to (LdcW k) = WithConstant image.pool k (λ v. Fits stack_end (push s v (s.at + 3)) to)
  Went to (Iload k) = WithLocal s.running.locals k (λ v. Fits stack_end (push s v (s.at + 2)) to)
  Went to (Istore k) = WithTop s.running.operands (λ v rest. Stores s k v rest (s.at + 2) to)
  Went to Pop = WithTop s.running.operands (λ y rest. moved s rest (s.at + 1) ≡ to)
  Went to Dup = WithTop s.running.operands (λ y rest. Fits stack_end (push s y (s.at + 1)) to)
  Went to Swap = WithTwo s.running.operands (λ y x rest. moved s (x ∷ y ∷ rest) (s.at + 1) ≡ to)
  Went to Iadd = WithTwo s.running.operands (λ y x rest. moved s (plus x y ∷ rest) (s.at + 1) ≡ to)
  Went to Isub = WithTwo s.running.operands (λ y x rest. moved s (minus x y ∷ rest) (s.at + 1) ≡ to)
  Went to Iand = WithTwo s.running.operands (λ y x rest. moved s (bit_and x y ∷ rest) (s.at + 1) ≡ to)
  Went to (Iinc k b) = WithLocal s.running.locals k (λ v. with_local s k (plus v (word_of b)) s.running.operands (s.at + 3) ≡ to)
  Went to (Ifeq o) = WithTop s.running.operands (λ y rest. moved s rest (way s.at o (y == 0)) ≡ to)
  Went to (Iflt o) = WithTop s.running.operands (λ y rest. moved s rest (way s.at o (is_negative y)) ≡ to)
  Went to (IfIcmpeq o) = WithTwo s.running.operands (λ y x rest. moved s rest (way s.at o (x == y)) ≡ to)
  Went to (Goto o) = moved s s.running.operands (target s.at o) ≡ to
  Went to Ireturn = Returns s to
  Went to Ior = WithTwo s.running.operands (λ y x rest. moved s (bit_or x y ∷ rest) (s.at + 1) ≡ to)
  Went to (Invokevirtual k) = WithMethod image s k (λ m n. Fits stack_end (in_method s m n) to)
  Went to (WideIload k) = WithLocal s.running.locals k (λ v. Fits stack_end (push s v (s.at + 4)) to)
  Went to (WideIstore k) = WithTop s.running.operands (λ v rest. Stores s k v rest (s.at + 4) to)
  Went to (WideIinc k n) = WithLocal s.running.locals k (λ v. with_local s k (plus v (word_of n)) s.running.operands (s.at + 6) ≡ to)
  Went to In = Fits stack_end (push (taken s) (next_byte s.untaken) (s.at + 1)) to
  Went to Out = WithTop s.running.operands (λ y rest. record (moved s rest (s.at + 1)) { given = s.given ++ (y % 256) ∷ [] } ≡ to)
  Went to Err = ⊥
  Went to Halt = ⊥

  -- an instruction meets the stack's end, and leaves this state
  abbrev pub Overran : State → Instr → Type 0
  Overran left (Bipush b) = Overflows stack_end (push s (word_of b) (s.at + 2)) s left
  Overran left (LdcW k) = WithConstant image.pool k (λ v. Overflows stack_end (push s v (s.at + 3)) s left)
  Overran left (Iload k) = WithLocal s.running.locals k (λ v. Overflows stack_end (push s v (s.at + 2)) s left)
  Overran left Dup = WithTop s.running.operands (λ y rest. Overflows stack_end (push s y (s.at + 1)) s left)
  Overran left (Invokevirtual k) = WithMethod image s k (λ m n. Overflows stack_end (in_method s m n) s left)
  Overran left (WideIload k) = WithLocal s.running.locals k (λ v. Overflows stack_end (push s v (s.at + 4)) s left)
  Overran left In = Overflows stack_end (push (taken s) (next_byte s.untaken) (s.at + 1)) (taken s) left
  Overran left i = ⊥

  -- what an outcome of an instruction means, where it is not stuck
  abbrev pub IsOutcome : Instr → StepOutcome → Type 0
  IsOutcome i (Goes to) = Went to i
  IsOutcome i (Limits left) = Overran left i
  IsOutcome i Halts = i ≡ Halt
  IsOutcome i Errs = i ≡ Err
  IsOutcome i Stuck = Unit {0}
