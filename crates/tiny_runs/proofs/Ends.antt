-- The ends of a program's runs, from where they lead.
use Rattle.tiny_runs.proofs.Common.{◌≡◌, ◌<◌, ◌≤◌, ℕ, suc, ◌+◌, ◌%◌, Bool, true, false, if◌then◌else◌, Option, Some, None, refl, sym, ap, ◌∙◌, subst, arith}
use Rattle.tiny_runs.proofs.Common.{nat_le, ◌==◌, leb-true, leb-false, Machine, Mic1, Mic2, Instr, instr_at, ImageView, Advances}
use Rattle.ijvm_instr.specs.declared.instr.Instr.TheVariants as instrs
use Rattle.ijvm_meaning.specs.declared.run.RunEnd.TheVariants as ends
use Rattle.ijvm_meaning.specs.Prelude.{State, StepOutcome, Goes, Halts, step_if_any, step_outcome, cost_at, is_taken, entry_of, timing_of, TimedImage, Point, Finish, point_after, after_outcome, after_test, finish_from, EndsBy, Passes, Start, More}
use Rattle.tiny_tree.specs.Prelude.{Meaning, Ended, Cut}
use Rattle.tiny_runs.proofs.Led.{output, IsPrefix, whole_prefix, Led, Finishes, Stops, Limited, Leads}

-- ---- what an instruction that goes on costs

branch_positive : (b : Bool) (x y : ℕ) → 1 ≤ x → 1 ≤ y → 1 ≤ (if b then x else y)
branch_positive true x y h k = h
branch_positive false x y h k = k

positive : (image : ImageView) (stack_end : ℕ) (machine : Machine) (s t : State) (o : Option Instr) →
    step_if_any image stack_end s o ≡ Goes t → 1 ≤ cost_at image (timing_of machine) s o
positive image stack_end machine s t None h = cc
positive image stack_end machine s t (Some instrs.Halt) h = cc
positive image stack_end machine s t (Some instrs.Err) h = cc
positive image stack_end Mic1 s t (Some (instrs.Ifeq o)) h = branch_positive (is_taken (instrs.Ifeq o) s.running.operands) 11 8 (omega arith) (omega arith)
positive image stack_end Mic2 s t (Some (instrs.Ifeq o)) h = branch_positive (is_taken (instrs.Ifeq o) s.running.operands) 8 6 (omega arith) (omega arith)
positive image stack_end Mic1 s t (Some (instrs.Iflt o)) h = branch_positive (is_taken (instrs.Iflt o) s.running.operands) 11 8 (omega arith) (omega arith)
positive image stack_end Mic2 s t (Some (instrs.Iflt o)) h = branch_positive (is_taken (instrs.Iflt o) s.running.operands) 8 6 (omega arith) (omega arith)
positive image stack_end Mic1 s t (Some (instrs.IfIcmpeq o)) h =
    branch_positive (is_taken (instrs.IfIcmpeq o) s.running.operands) 13 10 (omega arith) (omega arith)
positive image stack_end Mic2 s t (Some (instrs.IfIcmpeq o)) h =
    branch_positive (is_taken (instrs.IfIcmpeq o) s.running.operands) 10 8 (omega arith) (omega arith)
positive image stack_end Mic1 s t (Some (instrs.Invokevirtual k)) h = omega arith
positive image stack_end Mic2 s t (Some (instrs.Invokevirtual k)) h =
    branch_positive (entry_of image.pool (instrs.Invokevirtual k) % 4 == 3) 13 12 (omega arith) (omega arith)
positive image stack_end Mic1 s t (Some i) h = omega arith
positive image stack_end Mic2 s t (Some i) h = omega arith

pub machines_advance : (machine : Machine) → Advances (timing_of machine)
machines_advance machine image stack_end s to e = positive image stack_end machine s to (instr_at image.text s.at) e

-- ---- how a run with a bound goes

-- the cycles of the last boundary to which this leads
abbrev pub last : (p : TimedImage) {m : Meaning} {k : ℕ} {s : State} → Led p.image p.stack_end m k s → Point → ℕ
last p (Leads k j s t e le q l) at = last p l (point_after p at t)
last p _ at = at.cycles

pub data Tale (p : TimedImage) (bound : ℕ) (at : Point) (m : Meaning) (k : ℕ) (last : ℕ) : Type 0 where
  IsLimited : (f : Finish) → EndsBy p bound at f → f.end ≡ ends.StackLimit → Tale p bound at m k last
  IsHalted : (f : Finish) → EndsBy p bound at f → f.end ≡ ends.Halt → m ≡ Ended f.left.given f.left.untaken → Tale p bound at m k last
  IsBounded : (f : Finish) → EndsBy p bound at f → f.end ≡ ends.Bound → IsPrefix f.left.given (output m) → bound ≤ last →
      Tale p bound at m k last
  IsCut : (c : Point) → Passes p bound at c → m ≡ Cut c.state.given → at.cycles + k ≤ c.cycles → c.cycles < bound → Tale p bound at m k last

passes_on : (p : TimedImage) (bound : ℕ) (at next c : Point) (t : State) → at.cycles < bound → step_outcome p.image p.stack_end at.state ≡ Goes t →
    next ≡ point_after p at t → Passes p bound next c → Passes p bound at c
passes_on p bound at next c t lt e is (Start c' same) = More at c' t (Start at refl) lt e (same ∙ is)
passes_on p bound at next c t lt e is (More b c' u h lt' e' is') = More b c' u (passes_on p bound at next b t lt e is h) lt' e' is'

module _ (p : TimedImage) (advances : Advances p.timing) where
  pub rises : (at : Point) (t : State) → step_outcome p.image p.stack_end at.state ≡ Goes t → at.cycles < (point_after p at t).cycles
  rises at t e = omega (arith, advances p.image p.stack_end at.state t e)

  module _ (bound : ℕ) where
    -- one more instruction in front
    ends_on : (at : Point) (t : State) (f : Finish) → nat_le bound at.cycles ≡ false → step_outcome p.image p.stack_end at.state ≡ Goes t →
        EndsBy p bound (point_after p at t) f → EndsBy p bound at f
    ends_on at t f below e h =
        (suc h.0, ap (after_test (finish_from p bound h.0) p at) below ∙ ap (after_outcome (finish_from p bound h.0) p at) e ∙ h.1)

    ends_here : (at : Point) (o : StepOutcome) (f : Finish) → nat_le bound at.cycles ≡ false → step_outcome p.image p.stack_end at.state ≡ o →
        after_outcome (finish_from p bound 0) p at o ≡ Some f → EndsBy p bound at f
    ends_here at o f below e h =
        (1, ap (after_test (finish_from p bound 0) p at) below ∙ ap (after_outcome (finish_from p bound 0) p at) e ∙ h)

    tell_on : (m : Meaning) (j k last : ℕ) (at : Point) (t : State) → nat_le bound at.cycles ≡ false →
        step_outcome p.image p.stack_end at.state ≡ Goes t → j ≤ suc k → Tale p bound (point_after p at t) m k last → Tale p bound at m j last
    tell_on m j k last at t below e le (IsLimited f h is) = IsLimited f (ends_on at t f below e h) is
    tell_on m j k last at t below e le (IsHalted f h is same) = IsHalted f (ends_on at t f below e h) is same
    tell_on m j k last at t below e le (IsBounded f h is q small) = IsBounded f (ends_on at t f below e h) is q small
    tell_on m j k last at t below e le (IsCut c h is far lt) =
        IsCut c (passes_on p bound at _ c t (leb-false bound at.cycles below) e refl h) is (omega (arith, far, le, rises at t e)) lt

    last_above : {m : Meaning} {k : ℕ} {s : State} (l : Led p.image p.stack_end m k s) (at : Point) → at.state ≡ s → at.cycles ≤ last p l at
    last_above (Finishes k s e is) at same = omega arith
    last_above (Stops s is) at same = omega arith
    last_above (Limited k s left e q) at same = omega arith
    last_above (Leads k j s t e le q l) at same =
        omega (arith, rises at t (ap (step_outcome p.image p.stack_end) same ∙ e), last_above l (point_after p at t) refl)

    prefix_led : {m : Meaning} {k : ℕ} {s : State} → Led p.image p.stack_end m k s → IsPrefix s.given (output m)
    prefix_led (Finishes k s e is) = subst (λ (x : Meaning). IsPrefix s.given (output x)) (sym is) (whole_prefix s.given)
    prefix_led (Stops s is) = subst (λ (x : Meaning). IsPrefix s.given (output x)) (sym is) (whole_prefix s.given)
    prefix_led (Limited k s left e q) = q
    prefix_led (Leads k j s t e le q l) = q

    bounded : {m : Meaning} {k : ℕ} {s : State} (l : Led p.image p.stack_end m k s) (at : Point) → at.state ≡ s →
        nat_le bound at.cycles ≡ true → Tale p bound at m k (last p l at)
    bounded {m} l at same above =
        IsBounded _ (1, ap (after_test (finish_from p bound 0) p at) above) refl
        (subst (λ (x : State). IsPrefix x.given (output m)) (sym same) (prefix_led l)) (omega (arith, leb-true bound at.cycles above, last_above l at same))

    tell_by : {m : Meaning} {k : ℕ} {s : State} (b : Bool) (l : Led p.image p.stack_end m k s) (at : Point) → at.state ≡ s →
        nat_le bound at.cycles ≡ b → Tale p bound at m k (last p l at)
    tell_by true l at same above = bounded l at same above
    tell_by {m} false (Finishes k s e is) at same below =
        IsHalted _ (ends_here at Halts _ below (ap (step_outcome p.image p.stack_end) same ∙ e) refl) refl
        (subst (λ (x : State). m ≡ Ended x.given x.untaken) (sym same) is)
    tell_by {m} false (Stops s is) at same below =
        IsCut at (Start at refl) (subst (λ (x : State). m ≡ Cut x.given) (sym same) is) (omega arith) (leb-false bound at.cycles below)
    tell_by false (Limited k s left e q) at same below = IsLimited _ (ends_here at _ _ below (ap (step_outcome p.image p.stack_end) same ∙ e) refl) refl
    tell_by {m} false (Leads k j s t e le q l) at same below =
        tell_on m j k _ at t below (ap (step_outcome p.image p.stack_end) same ∙ e) le (tell_by _ l _ refl refl)

    pub tell : {m : Meaning} {k : ℕ} {s : State} (l : Led p.image p.stack_end m k s) (at : Point) → at.state ≡ s → Tale p bound at m k (last p l at)
    tell l at same = tell_by (nat_le bound at.cycles) l at same refl
