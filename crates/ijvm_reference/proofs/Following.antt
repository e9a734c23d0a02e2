-- What was given before is no part of a run: with more bytes given before it, it is the same run with these bytes in front.
use Rattle.ijvm_reference.proofs.Common.{◌≡◌, ℕ, zero, suc, ◌+◌, ◌%◌, ◌==◌, Bool, true, false, nat_lt, nat_le, if◌then◌else◌, List, [], ◌∷◌, ◌++◌, append_assoc}
use Rattle.ijvm_reference.proofs.Common.{length, Option, Some, None, ℤ, refl, sym, ap, subst, ◌∙◌, slice_get, bit_and, bit_or, option_map, ConsoleView}
use Rattle.ijvm_reference.proofs.Common.{next_byte, Instr, Bipush, LdcW, Iload, Istore, Pop, Dup, Swap, Iadd, Isub, Iand, Iinc, Ifeq, Iflt, IfIcmpeq, Ireturn}
use Rattle.ijvm_reference.proofs.Common.{Ior, Invokevirtual, WideIload, WideIstore, WideIinc, In, Out, Method, instr_at, word_of, ImageView, method_at}
use Rattle.mic_words.specs.Prelude.{plus, minus, is_negative}
use Rattle.ijvm_meaning.specs.declared.run.RunEnd.TheVariants as ends
use Rattle.ijvm_meaning.specs.Prelude.{Frame, State, base, frames_of, StepOutcome, Goes, Halts, Errs, Limits, Stuck, moved, limited, pushed, pushed_constant, loaded, stored, with_local, is_own, increased, popped, doubled, swapped, combined, branched, compared, returned, in_method, entered, called_at, taken, given_out, step, step_if_any, step_outcome, Timing, cost_at, TimedImage, Point, Finish, point_after, after_outcome, after_test, finish_from, EndsBy}
use Rattle.ijvm_reference.specs.Prelude.{GoesOn, Reaches, Begins, Onward}

-- the same state, where these bytes were given before
abbrev pub following : List ℕ → State → State
following g s = record s { given = g ++ s.given }

abbrev lifted : List ℕ → StepOutcome → StepOutcome
lifted g (Goes to) = Goes (following g to)
lifted g Halts = Halts
lifted g Errs = Errs
lifted g (Limits left) = Limits (following g left)
lifted g Stuck = Stuck

limited_by : (g : List ℕ) (t : Bool) (left to : State) → (if t then Goes (following g to) else Limits (following g left)) ≡ lifted g (if t then Goes to else Limits left)
limited_by g true left to = refl
limited_by g false left to = refl

limited_at : (g : List ℕ) (n : ℕ) (left to : State) → limited n (following g left) (following g to) ≡ lifted g (limited n left to)
limited_at g n left to = limited_by g (nat_le (base (frames_of to)) n) left to

pushed_at : (g : List ℕ) (n : ℕ) (s : State) (v to : ℕ) → pushed n (following g s) v to ≡ lifted g (pushed n s v to)
pushed_at g n s v to = limited_at g n s (moved s (v ∷ s.running.operands) to)

constant_at : (g : List ℕ) (n : ℕ) (s : State) (v : Option ℕ) → pushed_constant n (following g s) v ≡ lifted g (pushed_constant n s v)
constant_at g n s None = refl
constant_at g n s (Some v) = pushed_at g n s v (s.at + 3)

loaded_at : (g : List ℕ) (n : ℕ) (s : State) (v : Option (Option ℕ)) (to : ℕ) → loaded n (following g s) v to ≡ lifted g (loaded n s v to)
loaded_at g n s (Some (Some v)) to = pushed_at g n s v to
loaded_at g n s _ to = refl

stored_by : (g : List ℕ) (a b : Bool) (to : State) → (if a then (if b then Goes (following g to) else Stuck) else Stuck) ≡ lifted g (if a then (if b then Goes to else Stuck) else Stuck)
stored_by g true true to = refl
stored_by g _ _ to = refl

stored_at : (g : List ℕ) (s : State) (k : ℕ) (operands : List ℕ) (to : ℕ) → stored (following g s) k operands to ≡ lifted g (stored s k operands to)
stored_at g s k [] to = refl
stored_at g s k (v ∷ rest) to = stored_by g (is_own s.running.back k) (nat_lt k (length s.running.locals)) (with_local s k v rest to)

increased_at : (g : List ℕ) (s : State) (k : ℕ) (b : ℤ) (v : Option (Option ℕ)) (to : ℕ) → increased (following g s) k b v to ≡ lifted g (increased s k b v to)
increased_at g s k b (Some (Some v)) to = refl
increased_at g s k b _ to = refl

popped_at : (g : List ℕ) (s : State) (operands : List ℕ) → popped (following g s) operands ≡ lifted g (popped s operands)
popped_at g s [] = refl
popped_at g s (y ∷ rest) = refl

doubled_at : (g : List ℕ) (n : ℕ) (s : State) (operands : List ℕ) → doubled n (following g s) operands ≡ lifted g (doubled n s operands)
doubled_at g n s [] = refl
doubled_at g n s (y ∷ rest) = pushed_at g n s y (s.at + 1)

swapped_at : (g : List ℕ) (s : State) (operands : List ℕ) → swapped (following g s) operands ≡ lifted g (swapped s operands)
swapped_at g s (y ∷ x ∷ rest) = refl
swapped_at g s _ = refl

combined_at : (g : List ℕ) (f : ℕ → ℕ → ℕ) (s : State) (operands : List ℕ) → combined f (following g s) operands ≡ lifted g (combined f s operands)
combined_at g f s (y ∷ x ∷ rest) = refl
combined_at g f s _ = refl

branched_at : (g : List ℕ) (test : ℕ → Bool) (s : State) (o : ℤ) (operands : List ℕ) → branched test (following g s) o operands ≡ lifted g (branched test s o operands)
branched_at g test s o [] = refl
branched_at g test s o (y ∷ rest) = refl

compared_at : (g : List ℕ) (s : State) (o : ℤ) (operands : List ℕ) → compared (following g s) o operands ≡ lifted g (compared s o operands)
compared_at g s o (y ∷ x ∷ rest) = refl
compared_at g s o _ = refl

returned_at : (g : List ℕ) (s : State) (back : Option ℕ) (callers : List Frame) (operands : List ℕ) → returned (following g s) back callers operands ≡ lifted g (returned s back callers operands)
returned_at g s (Some back) (f ∷ fs) (y ∷ rest) = refl
returned_at g s _ _ _ = refl

entered_by : (g : List ℕ) (t : Bool) (n : ℕ) (s to : State) → (if t then limited n (following g s) (following g to) else Stuck) ≡ lifted g (if t then limited n s to else Stuck)
entered_by g true n s to = limited_at g n s to
entered_by g false n s to = refl

entered_at : (g : List ℕ) (n : ℕ) (s : State) (m : Method) (params : ℕ) → entered n (following g s) m params ≡ lifted g (entered n s m params)
entered_at g n s m zero = refl
entered_at g n s m (suc k) = entered_by g (nat_lt k (length s.running.operands)) n s (in_method s m k)

called_to : (g : List ℕ) (n : ℕ) (s : State) (m : Option Method) → called_at n (following g s) m ≡ lifted g (called_at n s m)
called_to g n s None = refl
called_to g n s (Some m) = entered_at g n s m m.params

given_at : (g : List ℕ) (s : State) (operands : List ℕ) → given_out (following g s) operands ≡ lifted g (given_out s operands)
given_at g s [] = refl
given_at g s (y ∷ rest) = ap (λ (xs : List ℕ). Goes (record (moved s rest (s.at + 1)) { given = xs })) (append_assoc g s.given ((y % 256) ∷ []))

step_at : (image : ImageView) (n : ℕ) (i : Instr) (g : List ℕ) (s : State) → step image n i (following g s) ≡ lifted g (step image n i s)
step_at image n (Bipush b) g s = pushed_at g n s (word_of b) (s.at + 2)
step_at image n (LdcW k) g s = constant_at g n s (slice_get image.pool k)
step_at image n (Iload k) g s = loaded_at g n s (slice_get s.running.locals k) (s.at + 2)
step_at image n (Istore k) g s = stored_at g s k s.running.operands (s.at + 2)
step_at image n Pop g s = popped_at g s s.running.operands
step_at image n Dup g s = doubled_at g n s s.running.operands
step_at image n Swap g s = swapped_at g s s.running.operands
step_at image n Iadd g s = combined_at g plus s s.running.operands
step_at image n Isub g s = combined_at g minus s s.running.operands
step_at image n Iand g s = combined_at g bit_and s s.running.operands
step_at image n (Iinc k b) g s = increased_at g s k b (slice_get s.running.locals k) (s.at + 3)
step_at image n (Ifeq o) g s = branched_at g (λ y. y == 0) s o s.running.operands
step_at image n (Iflt o) g s = branched_at g is_negative s o s.running.operands
step_at image n (IfIcmpeq o) g s = compared_at g s o s.running.operands
step_at image n Ireturn g s = returned_at g s s.running.back s.callers s.running.operands
step_at image n Ior g s = combined_at g bit_or s s.running.operands
step_at image n (Invokevirtual k) g s = called_to g n s (method_at image.text (slice_get image.pool k))
step_at image n (WideIload k) g s = loaded_at g n s (slice_get s.running.locals k) (s.at + 4)
step_at image n (WideIstore k) g s = stored_at g s k s.running.operands (s.at + 4)
step_at image n (WideIinc k z) g s = increased_at g s k z (slice_get s.running.locals k) (s.at + 6)
step_at image n In g s = pushed_at g n (taken s) (next_byte s.untaken) (s.at + 1)
step_at image n Out g s = given_at g s s.running.operands
step_at image n _ g s = refl

stepped_at : (image : ImageView) (n : ℕ) (g : List ℕ) (s : State) (i : Option Instr) → step_if_any image n (following g s) i ≡ lifted g (step_if_any image n s i)
stepped_at image n g s None = refl
stepped_at image n g s (Some i) = step_at image n i g s

outcome-following : (image : ImageView) (n : ℕ) (g : List ℕ) (s : State) → step_outcome image n (following g s) ≡ lifted g (step_outcome image n s)
outcome-following image n g s = stepped_at image n g s (instr_at image.text s.at)

cost_same : (image : ImageView) (timing : Timing) (g : List ℕ) (s : State) (i : Option Instr) → cost_at image timing (following g s) i ≡ cost_at image timing s i
cost_same image timing g s None = refl
cost_same image timing g s (Some i) = refl

-- Whole runs.

abbrev pub point_following : List ℕ → Point → Point
point_following g at = record at { state = following g at.state }

abbrev pub finish_following : List ℕ → Finish → Finish
finish_following g f = record f { last = point_following g f.last; left = following g f.left }

next-following : (p : TimedImage) (g : List ℕ) (at : Point) (to : State) → point_after p (point_following g at) (following g to) ≡ point_following g (point_after p at to)
next-following p g at to =
    ap (λ (cost : ℕ). record { state = following g to; cycles = at.cycles + cost; instructions = at.instructions + 1 }) (cost_same p.image p.timing g at.state (instr_at p.image.text at.state.at))

outcome_following : (p : TimedImage) (g : List ℕ) (more : Point → Option Finish) → ((a : Point) → more (point_following g a) ≡ option_map (finish_following g) (more a)) → (at : Point) (o : StepOutcome) →
    after_outcome more p (point_following g at) (lifted g o) ≡ option_map (finish_following g) (after_outcome more p at o)
outcome_following p g more h at (Goes to) = ap more (next-following p g at to) ∙ h (point_after p at to)
outcome_following p g more h at Halts =
    ap (λ (cost : ℕ). Some (record { end = ends.Halt; last = point_following g at; left = following g at.state; cycles = at.cycles + cost; instructions = at.instructions + 1 }))
    (cost_same p.image p.timing g at.state (instr_at p.image.text at.state.at))
outcome_following p g more h at Errs =
    ap (λ (cost : ℕ). Some (record { end = ends.Err; last = point_following g at; left = following g at.state; cycles = at.cycles + cost; instructions = at.instructions + 1 }))
    (cost_same p.image p.timing g at.state (instr_at p.image.text at.state.at))
outcome_following p g more h at (Limits left) = refl
outcome_following p g more h at Stuck = refl

test_following : (p : TimedImage) (g : List ℕ) (more : Point → Option Finish) → ((a : Point) → more (point_following g a) ≡ option_map (finish_following g) (more a)) → (at : Point) (t : Bool) →
    after_test more p (point_following g at) t ≡ option_map (finish_following g) (after_test more p at t)
test_following p g more h at true = refl
test_following p g more h at false =
    ap (after_outcome more p (point_following g at)) (outcome-following p.image p.stack_end g at.state) ∙ outcome_following p g more h at (step_outcome p.image p.stack_end at.state)

finish-following : (p : TimedImage) (bound : ℕ) (g : List ℕ) (points : ℕ) (at : Point) → finish_from p bound points (point_following g at) ≡ option_map (finish_following g) (finish_from p bound points at)
finish-following p bound g zero at = refl
finish-following p bound g (suc points) at = test_following p g (finish_from p bound points) (finish-following p bound g points) at (nat_le bound at.cycles)

mapped : (g : List ℕ) (o : Option Finish) (f : Finish) → option_map (finish_following g) o ≡ Some f → (first : Finish) × (o ≡ Some first) × (f ≡ finish_following g first)
mapped g None f e = absurd (cc)
mapped g (Some first) f e = (first, refl, cc)

-- the end of a run after given bytes is the run's own
pub ended_following : (p : TimedImage) (bound : ℕ) (g : List ℕ) (at : Point) (f : Finish) → EndsBy p bound (point_following g at) f →
    (first : Finish) × EndsBy p bound at first × (f ≡ finish_following g first)
ended_following p bound g at f e =
    let found = mapped g (finish_from p bound e.0 at) f (sym (finish-following p bound g e.0 at) ∙ e.1) in
    (found.0, (e.0, found.1), found.2)

goes_following : (g : List ℕ) (o : StepOutcome) (to : State) → lifted g o ≡ Goes to → (first : State) × (o ≡ Goes first) × (to ≡ following g first)
goes_following g (Goes first) to e = (first, refl, cc)
goes_following g _ to e = absurd (cc)

on_following : (told : Bool) (p : TimedImage) (bound : ℕ) (g : List ℕ) (b next : Point) (c c' : ConsoleView) → GoesOn told p bound (point_following g b) next c c' →
    (first : Point) × GoesOn told p bound b first c c' × (next ≡ point_following g first)
on_following told p bound g b next c c' on =
    let step = goes_following g (step_outcome p.image p.stack_end b.state) next.state (sym (outcome-following p.image p.stack_end g b.state) ∙ on.goes) in
    let to : Point = point_after p b step.0 in
    let is : next ≡ point_following g to = on.counts ∙ ap (point_after p (point_following g b)) step.2 ∙ next-following p g b step.0 in (
      to,
      record { under = on.under; goes = step.1; counts = refl; keeps = on.keeps },
      is,
    )

-- the boundaries that it reaches after given bytes are the run's own too
pub reached_following : (told : Bool) (p : TimedImage) (bound : ℕ) (g : List ℕ) (from : Point) (c0 : ConsoleView) (at : Point) (c : ConsoleView) → Reaches told p bound (point_following g from) c0 at c →
    (first : Point) × Reaches told p bound from c0 first c × (at ≡ point_following g first)
reached_following told p bound g from c0 at c (Begins a d same is) = (from, Begins from d refl is, same)
reached_following told p bound g from c0 at c (Onward b next d d' before on) =
    let a = reached_following told p bound g from c0 b d before in
    let step = on_following told p bound g a.0 next d d' (subst (λ (x : Point). GoesOn told p bound x next d d') a.2 on) in
    (step.0, Onward a.0 step.0 d d' a.1 step.1, step.2)
