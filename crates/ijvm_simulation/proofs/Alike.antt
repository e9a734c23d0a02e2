-- Runs of the definition with the cycles of two machines end alike, and so do the machines.
use Rattle.ijvm_simulation.proofs.Common.{◌≡◌, ◌≢◌, ℕ, zero, suc, ◌+◌, ◌++◌, Bool, true, false, Option, Some, None, List, refl, sym, ◌∙◌, ap, subst, nat_le}
use Rattle.ijvm_simulation.proofs.Common.{IfSome, same_Some, World, Counts, Meaning, BoardView, RunEnd, VerifiedView}
use Rattle.ijvm_meaning.specs.declared.run.RunEnd.TheVariants as defined
use Rattle.ijvm_meaning.specs.Prelude.{State, start_of, StepOutcome, Goes, Halts, Errs, Limits, Stuck, step_outcome, Timing, TimedImage, Point, Finish, point_after, finish_from, after_test, after_outcome, completed, stopped, first_point}
use Rattle.ijvm_simulation.specs.Prelude.{board_end, program, told_of, HasRun, EndAlike, MeetNoBound}

-- two ends of runs with the same states
pub record Alike (f g : Finish) : Type 0 where
  pub end : f.end ≡ g.end
  pub left : f.left ≡ g.left
  pub instructions : f.instructions ≡ g.instructions

carried : (x y f g : Finish) → x ≡ f → y ≡ g → Alike x y → Alike f g
carried x y f g one other h = subst (λ (z : Finish). Alike z g) one (subst (λ (z : Finish). Alike x z) other h)

module _ (p q : TimedImage) (image : q.image ≡ p.image) (stack_end : q.stack_end ≡ p.stack_end) (b c : ℕ) where
  abbrev Later : ℕ → ℕ → Type 0
  Later n k = (at to : Point) (f g : Finish) → at.state ≡ to.state → at.instructions ≡ to.instructions →
      finish_from p b n at ≡ Some f → finish_from q c k to ≡ Some g → f.end ≢ defined.Bound → g.end ≢ defined.Bound → Alike f g

  by_outcome : (n k : ℕ) → Later n k → (at to : Point) (f g : Finish) → at.state ≡ to.state → at.instructions ≡ to.instructions → (out : StepOutcome) →
      after_outcome (finish_from p b n) p at out ≡ Some f → after_outcome (finish_from q c k) q to out ≡ Some g → f.end ≢ defined.Bound → g.end ≢ defined.Bound → Alike f g
  by_outcome n k later at to f g same many (Goes s) ef eg nf ng = later (point_after p at s) (point_after q to s) f g refl (ap (λ (i : ℕ). i + 1) many) ef eg nf ng
  by_outcome n k later at to f g same many Halts ef eg nf ng =
      carried (completed p at defined.Halt) (completed q to defined.Halt) f g (same_Some _ _ ef) (same_Some _ _ eg)
      (record { end = refl; left = same; instructions = ap (λ (i : ℕ). i + 1) many })
  by_outcome n k later at to f g same many Errs ef eg nf ng =
      carried (completed p at defined.Err) (completed q to defined.Err) f g (same_Some _ _ ef) (same_Some _ _ eg)
      (record { end = refl; left = same; instructions = ap (λ (i : ℕ). i + 1) many })
  by_outcome n k later at to f g same many (Limits left) ef eg nf ng =
      carried (stopped at defined.StackLimit left) (stopped to defined.StackLimit left) f g (same_Some _ _ ef) (same_Some _ _ eg)
      (record { end = refl; left = refl; instructions = many })
  by_outcome n k later at to f g same many Stuck ef eg nf ng = absurd (cc)

  by_tests : (n k : ℕ) → Later n k → (at to : Point) (f g : Finish) → at.state ≡ to.state → at.instructions ≡ to.instructions → (t u : Bool) →
      after_test (finish_from p b n) p at t ≡ Some f → after_test (finish_from q c k) q to u ≡ Some g → f.end ≢ defined.Bound → g.end ≢ defined.Bound → Alike f g
  by_tests n k later at to f g same many true u ef eg nf ng = absurd (nf (ap (λ (x : Finish). x.end) (sym (same_Some _ _ ef))))
  by_tests n k later at to f g same many false true ef eg nf ng = absurd (ng (ap (λ (x : Finish). x.end) (sym (same_Some _ _ eg))))
  by_tests n k later at to f g same many false false ef eg nf ng =
      let there : step_outcome q.image q.stack_end to.state ≡ step_outcome p.image p.stack_end at.state = λ i. step_outcome (image i) (stack_end i) (sym same i) in
      by_outcome n k later at to f g same many (step_outcome p.image p.stack_end at.state) ef
      (ap (after_outcome (finish_from q c k) q to) (sym there) ∙ eg) nf ng

  pub alike : (n k : ℕ) → Later n k
  alike zero k at to f g same many ef eg nf ng = absurd (cc)
  alike (suc n) zero at to f g same many ef eg nf ng = absurd (cc)
  alike (suc n) (suc k) at to f g same many ef eg nf ng =
      by_tests n k (alike n k) at to f g same many (nat_le b at.cycles) (nat_le c to.cycles) ef eg nf ng

both_told : (held held' : Option (List ℕ)) (x y : List ℕ) → x ≡ y → IfSome held (λ h. h ≡ x) → IfSome held' (λ h. h ≡ y) → IfSome held (λ h. IfSome held' (λ h'. h ≡ h'))
both_told None held' x y e a b = tt
both_told (Some h) None x y e a b = tt
both_told (Some h) (Some h') x y e a b = a ∙ (e ∙ sym b)

module _ {M N S T : Type 0} (state : M → S) (m : Meaning S) (IsReady : ℕ → List ℕ → ℕ → S → World → Type 0) (IsShipped : List ℕ → Type 0) (entry : ℕ) (timing : Timing)
    (state' : N → T) (m' : Meaning T) (IsReady' : ℕ → List ℕ → ℕ → T → World → Type 0) (IsShipped' : List ℕ → Type 0) (entry' : ℕ) (timing' : Timing) where
  pub agree : (v : VerifiedView) (bound bound' : ℕ) (input : List ℕ) (before left held left' held' : Option (List ℕ)) (board : BoardView M) (board' : BoardView N) →
      HasRun state m IsReady IsShipped entry timing v bound (Some input) before left held board →
      HasRun state' m' IsReady' IsShipped' entry' timing' v bound' (Some input) before left' held' board' →
      MeetNoBound board board' → EndAlike held held' board board'
  agree v bound bound' input before left held left' held' board board' r r' none =
      let f : Finish = r.begins.finish in
      let g : Finish = r'.begins.finish in
      let told : r.begins.input ≡ input = r.begins.told in
      let told' : r'.begins.input ≡ input = r'.begins.told in
      let nf : f.end ≢ defined.Bound = λ e. none.0 (sym r.end ∙ (r.agrees.end ∙ ap (λ (x : RunEnd). Some (board_end x)) e)) in
      let ng : g.end ≢ defined.Bound = λ e. none.1 (sym r'.end ∙ (r'.agrees.end ∙ ap (λ (x : RunEnd). Some (board_end x)) e)) in
      let a : Alike f g =
      alike (program timing v) (program timing' v) refl refl bound bound' r.begins.finishes.0 r'.begins.finishes.0
      (first_point (program timing v) v.main_locals r.begins.input) (first_point (program timing' v) v.main_locals r'.begins.input) f g
      (ap (λ (i : List ℕ). start_of v.main_locals i) (told ∙ sym told')) refl r.begins.finishes.1 r'.begins.finishes.1 nf ng in
      record {
        end = sym r.end ∙ (r.agrees.end ∙ (ap (λ (x : RunEnd). Some (board_end x)) a.end ∙ (sym r'.agrees.end ∙ r'.end)));
        instructions = ap (λ (x : Counts). x.instructions) (sym r.at.counts) ∙ (r.agrees.instructions ∙ (a.instructions ∙ (sym r'.agrees.instructions ∙ ap (λ (x : Counts). x.instructions) r'.at.counts)));
        output = both_told held held' (told_of before ++ f.left.given) (told_of before ++ g.left.given) (ap (λ (x : State). told_of before ++ x.given) a.left) r.given r'.given;
      }
