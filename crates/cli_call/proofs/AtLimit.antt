-- A run that the stack's end cuts has given and spent what it had at its last boundary.
use Rattle.std.proofs.Common.{◌≡◌, ℕ, zero, suc, Bool, true, false, nat_le, Some, refl, subst}
use Rattle.std.proofs.lemmas.Option.{same_Some}
use Rattle.ijvm_meaning.specs.Prelude.{StepOutcome, Goes, Halts, Errs, Limits, Stuck, step_outcome, TimedImage, Point, Finish, EndsBy, finish_from, after_test}
use Rattle.ijvm_meaning.specs.Prelude.{after_outcome, point_after, KeepsAtLimit, keeps_at_limit}
use Rattle.ijvm_meaning.specs.declared.run.RunEnd.TheVariants as defined

-- at a stack limit the definition's cycles are those of the last boundary
abbrev pub OfLimit : Finish → Type 0
OfLimit f = f.end ≡ defined.StackLimit → f.cycles ≡ f.last.cycles

abbrev Kept : Finish → Type 0
Kept f = (f.left.given ≡ f.last.state.given) × OfLimit f

by_outcome : (p : TimedImage) (bound points : ℕ) (at : Point) (o : StepOutcome) (f : Finish) →
    ((next : Point) → finish_from p bound points next ≡ Some f → Kept f) → KeepsAtLimit at.state o →
    after_outcome (finish_from p bound points) p at o ≡ Some f → Kept f
by_outcome p bound points at (Goes to) f more keeps e = more (point_after p at to) e
by_outcome p bound points at Halts f more keeps e = subst Kept (same_Some _ f e) (refl, λ q. cc)
by_outcome p bound points at Errs f more keeps e = subst Kept (same_Some _ f e) (refl, λ q. cc)
by_outcome p bound points at (Limits left) f more keeps e = subst Kept (same_Some _ f e) (keeps.given, λ q. refl)
by_outcome p bound points at Stuck f more keeps e = absurd (cc)

by_test : (p : TimedImage) (bound points : ℕ) (at : Point) (t : Bool) (f : Finish) →
    ((next : Point) → finish_from p bound points next ≡ Some f → Kept f) →
    after_test (finish_from p bound points) p at t ≡ Some f → Kept f
by_test p bound points at true f more e = subst Kept (same_Some _ f e) (refl, λ q. cc)
by_test p bound points at false f more e =
    by_outcome p bound points at (step_outcome p.image p.stack_end at.state) f more (keeps_at_limit p.image p.stack_end at.state) e

kept_from : (p : TimedImage) (bound points : ℕ) (at : Point) (f : Finish) → finish_from p bound points at ≡ Some f → Kept f
kept_from p bound zero at f e = absurd (cc)
kept_from p bound (suc points) at f e = by_test p bound points at (nat_le bound at.cycles) f (λ next. kept_from p bound points next f) e

pub given_at_last : (p : TimedImage) (bound : ℕ) (at : Point) (f : Finish) → EndsBy p bound at f → f.left.given ≡ f.last.state.given
given_at_last p bound at f ends = (kept_from p bound ends.0 at f ends.1).0

pub cycles_at_last : (p : TimedImage) (bound : ℕ) (at : Point) (f : Finish) → EndsBy p bound at f → OfLimit f
cycles_at_last p bound at f ends = (kept_from p bound ends.0 at f ends.1).1
