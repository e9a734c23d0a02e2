-- A run has one end, at the last boundary that it passes.
use Rattle.std.proofs.Common.{◌≡◌, ◌<◌, ℕ, zero, suc, Bool, true, false, nat_le, Option, Some, refl, sym, ap, subst, ◌∙◌}
use Rattle.std.proofs.lemmas.Bool.{lt-leb, leb-false}
use Rattle.ijvm_image.specs.Prelude.{ImageView}
use Rattle.ijvm_meaning.specs.Prelude.{State, StepOutcome, Goes, Stuck, step_outcome, TimedImage, Point, Finish, point_after, after_outcome, after_test, finish_from, EndsBy, Passes, Start, More, after, state_after}

one_by_outcome : (p : TimedImage) (at : Point) (o : StepOutcome) (more less : Point → Option Finish) (f g : Finish) → ((a : Point) → more a ≡ Some f → less a ≡ Some g → f ≡ g) →
    after_outcome more p at o ≡ Some f → after_outcome less p at o ≡ Some g → f ≡ g
one_by_outcome p at (Goes to) more less f g same e k = same (point_after p at to) e k
one_by_outcome p at _ more less f g same e k = cc

one_by_test : (p : TimedImage) (at : Point) (t : Bool) (more less : Point → Option Finish) (f g : Finish) → ((a : Point) → more a ≡ Some f → less a ≡ Some g → f ≡ g) →
    after_test more p at t ≡ Some f → after_test less p at t ≡ Some g → f ≡ g
one_by_test p at true more less f g same e k = cc
one_by_test p at false more less f g same e k = one_by_outcome p at (step_outcome p.image p.stack_end at.state) more less f g same e k

one_end : (p : TimedImage) (bound n m : ℕ) (at : Point) (f g : Finish) → finish_from p bound n at ≡ Some f → finish_from p bound m at ≡ Some g → f ≡ g
one_end p bound zero m at f g e k = absurd (cc)
one_end p bound (suc n) zero at f g e k = absurd (cc)
one_end p bound (suc n) (suc m) at f g e k =
    one_by_test p at (nat_le bound at.cycles) (finish_from p bound n) (finish_from p bound m) f g (λ a. one_end p bound n m a f g) e k

-- a run has one end
pub ends_once : (p : TimedImage) (bound : ℕ) (at : Point) (f g : Finish) → EndsBy p bound at f → EndsBy p bound at g → f ≡ g
ends_once p bound at f g e k = one_end p bound e.0 k.0 at f g e.1 k.1

-- what a run goes on to, and where it ends

last_by_outcome : (p : TimedImage) (bound n : ℕ) (from at : Point) (o : StepOutcome) (f : Finish) → ((next : Point) → Passes p bound from next → finish_from p bound n next ≡ Some f → Passes p bound from f.last) →
    Passes p bound from at → at.cycles < bound → step_outcome p.image p.stack_end at.state ≡ o → after_outcome (finish_from p bound n) p at o ≡ Some f → Passes p bound from f.last
last_by_outcome p bound n from at (Goes to) f more passed less goes e = more (point_after p at to) (More at (point_after p at to) to passed less goes refl) e
last_by_outcome p bound n from at Stuck f more passed less goes e = absurd (cc)
last_by_outcome p bound n from at _ f more passed less goes e = let last : at ≡ f.last = cc in subst (Passes p bound from) last passed

last_by_test : (p : TimedImage) (bound n : ℕ) (from at : Point) (t : Bool) (f : Finish) → ((next : Point) → Passes p bound from next → finish_from p bound n next ≡ Some f → Passes p bound from f.last) →
    Passes p bound from at → nat_le bound at.cycles ≡ t → after_test (finish_from p bound n) p at t ≡ Some f → Passes p bound from f.last
last_by_test p bound n from at true f more passed test e = let last : at ≡ f.last = cc in subst (Passes p bound from) last passed
last_by_test p bound n from at false f more passed test e =
    last_by_outcome p bound n from at (step_outcome p.image p.stack_end at.state) f more passed (leb-false bound at.cycles test) refl e

last_from : (p : TimedImage) (bound n : ℕ) (from at : Point) (f : Finish) → Passes p bound from at → finish_from p bound n at ≡ Some f → Passes p bound from f.last
last_from p bound zero from at f passed e = absurd (cc)
last_from p bound (suc n) from at f passed e = last_by_test p bound n from at (nat_le bound at.cycles) f (λ next. last_from p bound n from next f) passed refl e

-- the end's boundary is one that the run passes
pub last_passed : (p : TimedImage) (bound : ℕ) (from : Point) (f : Finish) → EndsBy p bound from f → Passes p bound from f.last
last_passed p bound from f e = last_from p bound e.0 from from f (Start from refl) e.1

-- a step of a run that goes on
one_on : (p : TimedImage) (bound n : ℕ) (b : Point) (to : State) → b.cycles < bound → step_outcome p.image p.stack_end b.state ≡ Goes to → finish_from p bound (suc n) b ≡ finish_from p bound n (point_after p b to)
one_on p bound n b to less goes =
    ap (after_test (finish_from p bound n) p b) (lt-leb bound b.cycles less) ∙ ap (after_outcome (finish_from p bound n) p b) goes

-- the end of a boundary that a run passes is the run's
pub ends_from : (p : TimedImage) (bound : ℕ) (from at : Point) (f : Finish) → Passes p bound from at → EndsBy p bound at f → EndsBy p bound from f
ends_from p bound from at f (Start a same) e = subst (λ (x : Point). EndsBy p bound x f) same e
ends_from p bound from at f (More b next to first less goes is) e =
    let e0 : EndsBy p bound (point_after p b to) f = subst (λ (x : Point). EndsBy p bound x f) is e in
    ends_from p bound from b f first (suc e0.0, one_on p bound e0.0 b to less goes ∙ e0.1)

ends_next : (p : TimedImage) (bound n : ℕ) (b : Point) (to : State) (f : Finish) → b.cycles < bound → step_outcome p.image p.stack_end b.state ≡ Goes to → finish_from p bound n b ≡ Some f →
    EndsBy p bound (point_after p b to) f
ends_next p bound zero b to f less goes e = absurd (cc)
ends_next p bound (suc n) b to f less goes e = (n, sym (one_on p bound n b to less goes) ∙ e)

-- the end of a run is that of each boundary that it passes
pub ends_at : (p : TimedImage) (bound : ℕ) (from at : Point) (f : Finish) → Passes p bound from at → EndsBy p bound from f → EndsBy p bound at f
ends_at p bound from at f (Start a same) e = subst (λ (x : Point). EndsBy p bound x f) (sym same) e
ends_at p bound from at f (More b next to first less goes is) e =
    let here : EndsBy p bound b f = ends_at p bound from b f first e in
    subst (λ (x : Point). EndsBy p bound x f) (sym is) (ends_next p bound here.0 b to f less goes here.1)

-- The states that a run passes, counted.

one_more_by : (image : ImageView) (n k : ℕ) (o : StepOutcome) (t to : State) → ((s : State) → state_after image n k s ≡ Some t → state_after image n (suc k) s ≡ Some to) →
    after (state_after image n k) o ≡ Some t → after (state_after image n (suc k)) o ≡ Some to
one_more_by image n k (Goes s) t to more e = more s e
one_more_by image n k _ t to more e = absurd (cc)

one_more : (image : ImageView) (n k : ℕ) (s t to : State) → state_after image n k s ≡ Some t → step_outcome image n t ≡ Goes to → state_after image n (suc k) s ≡ Some to
one_more image n zero s t to e goes =
    let same : s ≡ t = cc in
    ap (λ (x : State). after (state_after image n zero) (step_outcome image n x)) same ∙ ap (after (state_after image n zero)) goes
one_more image n (suc k) s t to e goes = one_more_by image n k (step_outcome image n s) t to (λ u below. one_more image n k u t to below goes) e

-- each boundary's state is that after this many instructions
pub passed_state : (p : TimedImage) (bound : ℕ) (from at : Point) → Passes p bound from at → (k : ℕ) × (state_after p.image p.stack_end k from.state ≡ Some at.state)
passed_state p bound from at (Start a same) = (zero, ap (λ (x : Point). Some x.state) (sym same))
passed_state p bound from at (More b next to first less goes is) =
    let before : (k : ℕ) × (state_after p.image p.stack_end k from.state ≡ Some b.state) = passed_state p bound from b first in
    (suc before.0, one_more p.image p.stack_end before.0 from.state b.state to before.1 goes ∙ ap (λ (x : Point). Some x.state) (sym is))
