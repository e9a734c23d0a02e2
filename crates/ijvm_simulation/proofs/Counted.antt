-- The boundaries counted from the first one, and those that the definition's run passes.
use Rattle.ijvm_simulation.proofs.Common.{◌≡◌, ◌<◌, ℕ, zero, suc, Bool, true, false, nat_le, Option, Some, refl, sym, ◌∙◌, ap, subst, lt-leb, leb-false}
use Rattle.ijvm_meaning.specs.Prelude.{State, StepOutcome, Goes, step_outcome, TimedImage, Point, point_after, Passes, Start, More}
use Rattle.ijvm_simulation.specs.Prelude.{below, going_on, nth_point}

module _ (p : TimedImage) (bound : ℕ) where
  -- what is passed from the next boundary is passed from this one
  passes_on : (from next at : Point) (to : State) → from.cycles < bound → step_outcome p.image p.stack_end from.state ≡ Goes to → next ≡ point_after p from to →
      Passes p bound next at → Passes p bound from at
  passes_on from next at to under goes is (Start at' e) = More from at' to (Start from refl) under goes (e ∙ is)
  passes_on from next at to under goes is (More mid at' to2 h under2 goes2 is2) = More mid at' to2 (passes_on from next mid to under goes is h) under2 goes2 is2

  module _ (more : Point → Option Point) (from at : Point) (on : (next : Point) → more next ≡ Some at → Passes p bound next at) where
    passed_by : (o : StepOutcome) → from.cycles < bound → step_outcome p.image p.stack_end from.state ≡ o → going_on more p from o ≡ Some at → Passes p bound from at
    passed_by (Goes to) under goes e = passes_on from (point_after p from to) at to under goes refl (on (point_after p from to) e)
    passed_by _ under goes e = absurd (cc)

    passed_under : (t : Bool) → nat_le bound from.cycles ≡ t → below more p from t ≡ Some at → Passes p bound from at
    passed_under true is e = absurd (cc)
    passed_under false is e = passed_by (step_outcome p.image p.stack_end from.state) (leb-false bound from.cycles is) refl e

  pub passed : (i : ℕ) (from at : Point) → nth_point p bound i from ≡ Some at → Passes p bound from at
  passed zero from at e = Start at (let same : from ≡ at = cc in sym same)
  passed (suc i) from at e = passed_under (nth_point p bound i) from at (λ next. passed i next at) (nat_le bound from.cycles) refl e

  -- one boundary more, where the run goes on from this one
  goes_on : (i : ℕ) (from : Point) (to : State) → from.cycles < bound → step_outcome p.image p.stack_end from.state ≡ Goes to →
      nth_point p bound (suc i) from ≡ nth_point p bound i (point_after p from to)
  goes_on i from to under goes =
      let test : nat_le bound from.cycles ≡ false = lt-leb bound from.cycles under in
      ap (λ (t : Bool). below (nth_point p bound i) p from t) test ∙ ap (λ (o : StepOutcome). going_on (nth_point p bound i) p from o) goes

  module _ (at next : Point) (to : State) (under : at.cycles < bound) (goes : step_outcome p.image p.stack_end at.state ≡ Goes to) (is : next ≡ point_after p at to) where
    module _ (i : ℕ) (from : Point) (on : (mid : Point) → nth_point p bound i mid ≡ Some at → nth_point p bound (suc i) mid ≡ Some next) where
      more_by : (o : StepOutcome) → from.cycles < bound → step_outcome p.image p.stack_end from.state ≡ o → going_on (nth_point p bound i) p from o ≡ Some at →
          nth_point p bound (suc (suc i)) from ≡ Some next
      more_by (Goes mid) less here e = goes_on (suc i) from mid less here ∙ on (point_after p from mid) e
      more_by _ less here e = absurd (cc)

      more_under : (t : Bool) → nat_le bound from.cycles ≡ t → below (nth_point p bound i) p from t ≡ Some at → nth_point p bound (suc (suc i)) from ≡ Some next
      more_under true test e = absurd (cc)
      more_under false test e = more_by (step_outcome p.image p.stack_end from.state) (leb-false bound from.cycles test) refl e

    one_more : (i : ℕ) (from : Point) → nth_point p bound i from ≡ Some at → nth_point p bound (suc i) from ≡ Some next
    one_more zero from e =
        let same : from ≡ at = cc in
        subst (λ (x : Point). nth_point p bound (suc zero) x ≡ Some next) (sym same) (goes_on zero at to under goes ∙ ap Some (sym is))
    one_more (suc i) from e = more_under i from (λ mid. one_more i mid) (nat_le bound from.cycles) refl e

  pub counted : (from at : Point) → Passes p bound from at → (i : ℕ) × (nth_point p bound i from ≡ Some at)
  counted from at (Start at' e) = (0, ap Some (sym e))
  counted from at (More before at' to h under goes is) = let c = counted from before h in (suc c.0, one_more before at' to under goes is c.0 from c.1)
