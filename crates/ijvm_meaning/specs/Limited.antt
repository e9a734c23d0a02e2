-- A step that meets the stack's end leaves the frames as they are, and what was given.
use Rattle.std.proofs.Common.{◌≡◌, ℕ, zero, suc, ◌+◌, ◌==◌, Bool, true, false, nat_lt, nat_le, if◌then◌else◌, List, [], ◌∷◌, length, Option, Some, None, ℤ, refl, subst}
use Rattle.std.specs.Prelude.{slice_get, bit_and, bit_or}
use Rattle.ijvm_meaning.specs.Common.{plus, minus, is_negative, next_byte, Instr, instr_at, word_of, Method, ImageView, method_at}
use Rattle.ijvm_instr.specs.declared.instr.Instr.TheVariants.{Bipush, LdcW, Iload, Istore, Pop, Dup, Swap, Iadd, Isub, Iand, Iinc, Ifeq, Iflt, IfIcmpeq, Ireturn, Ior, Invokevirtual, WideIload, WideIstore, WideIinc, In, Out}
use Rattle.ijvm_meaning.specs.Frames.{Frame, State, base, frames_of}
use Rattle.ijvm_meaning.specs.Step.{StepOutcome, Goes, Limits, Stuck, moved, limited, pushed_constant, loaded, stored, with_local, is_own, increased, popped, doubled, swapped, combined, branched, compared, returned, in_method, entered, called_at, taken, given_out, step, step_if_any, step_outcome}
use Rattle.ijvm_meaning.specs.Safe.{SameFrames}

-- the frames and what was given stay
pub record IsLimited (s left : State) : Type 0 where
  pub frames : SameFrames s left
  pub given : left.given ≡ s.given

-- what holds where a step from this state met the stack's end
abbrev pub KeepsAtLimit : State → StepOutcome → Type 0
KeepsAtLimit s (Limits left) = IsLimited s left
KeepsAtLimit s _ = Unit {0}

pub same_frames : (s : State) → SameFrames s s
same_frames s = record { running = refl; callers = refl; at = refl }

limited_by : (t : Bool) (s left to : State) → IsLimited s left → KeepsAtLimit s (if t then Goes to else Limits left)
limited_by true s left to h = tt
limited_by false s left to h = h

limited_at : (n : ℕ) (s to : State) → KeepsAtLimit s (limited n s to)
limited_at n s to = limited_by (nat_le (base (frames_of to)) n) s s to (record { frames = same_frames s; given = refl })

-- a byte of the console was taken
read_at : (n : ℕ) (s to : State) → KeepsAtLimit s (limited n (taken s) to)
read_at n s to =
    limited_by (nat_le (base (frames_of to)) n) s (taken s) to (record {
      frames = record { running = refl; callers = refl; at = refl };
      given = refl;
    })

constant_at : (n : ℕ) (s : State) (v : Option ℕ) → KeepsAtLimit s (pushed_constant n s v)
constant_at n s None = tt
constant_at n s (Some v) = limited_at n s (moved s (v ∷ s.running.operands) (s.at + 3))

loaded_at : (n : ℕ) (s : State) (v : Option (Option ℕ)) (to : ℕ) → KeepsAtLimit s (loaded n s v to)
loaded_at n s None to = tt
loaded_at n s (Some None) to = tt
loaded_at n s (Some (Some v)) to = limited_at n s (moved s (v ∷ s.running.operands) to)

stored_by : (s : State) (a b : Bool) (to : State) → KeepsAtLimit s (if a then (if b then Goes to else Stuck) else Stuck)
stored_by s true true to = tt
stored_by s true false to = tt
stored_by s false b to = tt

stored_at : (s : State) (k : ℕ) (operands : List ℕ) (to : ℕ) → KeepsAtLimit s (stored s k operands to)
stored_at s k [] to = tt
stored_at s k (v ∷ rest) to = stored_by s (is_own s.running.back k) (nat_lt k (length s.running.locals)) (with_local s k v rest to)

increased_at : (s : State) (k : ℕ) (b : ℤ) (v : Option (Option ℕ)) (to : ℕ) → KeepsAtLimit s (increased s k b v to)
increased_at s k b None to = tt
increased_at s k b (Some None) to = tt
increased_at s k b (Some (Some v)) to = tt

popped_at : (s : State) (operands : List ℕ) → KeepsAtLimit s (popped s operands)
popped_at s [] = tt
popped_at s (y ∷ rest) = tt

doubled_at : (n : ℕ) (s : State) (operands : List ℕ) → KeepsAtLimit s (doubled n s operands)
doubled_at n s [] = tt
doubled_at n s (y ∷ rest) = limited_at n s (moved s (y ∷ s.running.operands) (s.at + 1))

swapped_at : (s : State) (operands : List ℕ) → KeepsAtLimit s (swapped s operands)
swapped_at s [] = tt
swapped_at s (y ∷ []) = tt
swapped_at s (y ∷ x ∷ rest) = tt

combined_at : (f : ℕ → ℕ → ℕ) (s : State) (operands : List ℕ) → KeepsAtLimit s (combined f s operands)
combined_at f s [] = tt
combined_at f s (y ∷ []) = tt
combined_at f s (y ∷ x ∷ rest) = tt

branched_at : (test : ℕ → Bool) (s : State) (o : ℤ) (operands : List ℕ) → KeepsAtLimit s (branched test s o operands)
branched_at test s o [] = tt
branched_at test s o (y ∷ rest) = tt

compared_at : (s : State) (o : ℤ) (operands : List ℕ) → KeepsAtLimit s (compared s o operands)
compared_at s o [] = tt
compared_at s o (y ∷ []) = tt
compared_at s o (y ∷ x ∷ rest) = tt

returned_at : (s : State) (back : Option ℕ) (callers : List Frame) (operands : List ℕ) → KeepsAtLimit s (returned s back callers operands)
returned_at s None callers operands = tt
returned_at s (Some back) [] operands = tt
returned_at s (Some back) (f ∷ fs) [] = tt
returned_at s (Some back) (f ∷ fs) (y ∷ rest) = tt

entered_by : (n : ℕ) (t : Bool) (s to : State) → KeepsAtLimit s (if t then limited n s to else Stuck)
entered_by n true s to = limited_at n s to
entered_by n false s to = tt

entered_at : (n : ℕ) (s : State) (m : Method) (params : ℕ) → KeepsAtLimit s (entered n s m params)
entered_at n s m zero = tt
entered_at n s m (suc k) = entered_by n (nat_lt k (length s.running.operands)) s (in_method s m k)

called_keeps : (n : ℕ) (s : State) (m : Option Method) → KeepsAtLimit s (called_at n s m)
called_keeps n s None = tt
called_keeps n s (Some m) = entered_at n s m m.params

given_at : (s : State) (operands : List ℕ) → KeepsAtLimit s (given_out s operands)
given_at s [] = tt
given_at s (y ∷ rest) = tt

step_keeps : (image : ImageView) (n : ℕ) (i : Instr) (s : State) → KeepsAtLimit s (step image n i s)
step_keeps image n (Bipush b) s = limited_at n s (moved s (word_of b ∷ s.running.operands) (s.at + 2))
step_keeps image n (LdcW k) s = constant_at n s (slice_get image.pool k)
step_keeps image n (Iload k) s = loaded_at n s (slice_get s.running.locals k) (s.at + 2)
step_keeps image n (Istore k) s = stored_at s k s.running.operands (s.at + 2)
step_keeps image n Pop s = popped_at s s.running.operands
step_keeps image n Dup s = doubled_at n s s.running.operands
step_keeps image n Swap s = swapped_at s s.running.operands
step_keeps image n Iadd s = combined_at plus s s.running.operands
step_keeps image n Isub s = combined_at minus s s.running.operands
step_keeps image n Iand s = combined_at bit_and s s.running.operands
step_keeps image n (Iinc k b) s = increased_at s k b (slice_get s.running.locals k) (s.at + 3)
step_keeps image n (Ifeq o) s = branched_at (λ y. y == 0) s o s.running.operands
step_keeps image n (Iflt o) s = branched_at is_negative s o s.running.operands
step_keeps image n (IfIcmpeq o) s = compared_at s o s.running.operands
step_keeps image n Ireturn s = returned_at s s.running.back s.callers s.running.operands
step_keeps image n Ior s = combined_at bit_or s s.running.operands
step_keeps image n (Invokevirtual k) s = called_keeps n s (method_at image.text (slice_get image.pool k))
step_keeps image n (WideIload k) s = loaded_at n s (slice_get s.running.locals k) (s.at + 4)
step_keeps image n (WideIstore k) s = stored_at s k s.running.operands (s.at + 4)
step_keeps image n (WideIinc k b) s = increased_at s k b (slice_get s.running.locals k) (s.at + 6)
step_keeps image n In s = read_at n s (moved (taken s) (next_byte s.untaken ∷ s.running.operands) (s.at + 1))
step_keeps image n Out s = given_at s s.running.operands
step_keeps image n _ s = tt

keeps_by : (image : ImageView) (n : ℕ) (s : State) (i : Option Instr) → KeepsAtLimit s (step_if_any image n s i)
keeps_by image n s None = tt
keeps_by image n s (Some i) = step_keeps image n i s

pub keeps_at_limit : (image : ImageView) (n : ℕ) (s : State) → KeepsAtLimit s (step_outcome image n s)
keeps_at_limit image n s = keeps_by image n s (instr_at image.text s.at)

pub limits-same : (image : ImageView) (n : ℕ) (s left : State) → step_outcome image n s ≡ Limits left → IsLimited s left
limits-same image n s left e = subst (KeepsAtLimit s) e (keeps_at_limit image n s)
