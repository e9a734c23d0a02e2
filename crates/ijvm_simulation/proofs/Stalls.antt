-- The stalls that a clocked machine has counted at each boundary of its run.
use Rattle.ijvm_simulation.proofs.Common.{◌≡◌, ℕ, suc, ◌+◌, ◌<◌, Some, false, List, refl, arith, sym, ◌∙◌, ap, ap₂, subst, zero-add, nat_le, nat_tests, World}
use Rattle.ijvm_simulation.proofs.Common.{Meaning, MicroRun, turns, ImageView, Instr, instr_at, VerifiedView, reset_run}
use Rattle.ijvm_meaning.specs.Prelude.{State, start_of, Goes, Limits, step_outcome, Timing, cost, cost_at, next_cost, TimedImage, Point, point_after, first_point}
use Rattle.ijvm_simulation.specs.Prelude.{Origin, Went, Overran, program, Loads, Fine, IsNext, IsBoundary, Law, Boots, reset_moment, MovesWithStalls, OverrunsWithStalls, TakesWithStalls, HasStalled, StoppedWithin, Booted, Following}
use Rattle.ijvm_simulation.proofs.Turns.{moment_of, turns-add}
use Rattle.ijvm_simulation.proofs.Instruction.{Law as BoundaryLaw, Keeps, arrives, ready, near, instructions, overrun}
use Rattle.ijvm_simulation.proofs.Next.{Known, fine_start, keeps, next_of, said, boundary_law}
use Rattle.ijvm_simulation.proofs.Boots.{ready as ready_first}

module _ {S : Type 0} (m : Meaning S) (store : List ℕ) (IsAt : State → S → World → Type 0) (o : Origin) (v : VerifiedView) (loads : Loads v o) (known : Known)
    (timing : Timing) (law : Law m store IsAt o.given timing v o) (stalls_of : ImageView → Instr → ℕ) (takes : TakesWithStalls m store IsAt o.given timing stalls_of v o (λ i. Unit {0})) (bound : ℕ) where
  abbrev p : TimedImage
  p = program timing v

  abbrev each : BoundaryLaw m store IsAt o.given p (Fine v)
  each = boundary_law v o loads known m store IsAt timing law

  -- a boundary of the run, with the stalls before it
  record IsHere (at : Point) (stalls : ℕ) (r : MicroRun S) : Type 0 where
    pub boundary : IsBoundary IsAt at r
    pub fine : Fine v at.state
    pub stalled : r.counts.stalls ≡ stalls

  abbrev keep : Keeps p (Fine v)
  keep = keeps v timing loads.accepted loads.image known

  -- the boundary after an instruction
  following : (at : Point) (stalls : ℕ) (r : MicroRun S) (i : Instr) (to : State) → IsHere at stalls r → at.cycles < bound →
      instr_at v.image.text at.state.at ≡ Some i → step_outcome v.image v.map.stack_end at.state ≡ Goes to →
      IsHere (point_after p at to) (stalls + stalls_of v.image i) (turns m store (Some bound) (next_cost v.image timing at.state) r)
  following at stalls r i to h below code goes =
      let is : IsNext v o at.state i = next_of v o loads known at.state h.fine i code in
      let went : Went v.image v.map.stack_end at.state to i = said v o loads known at.state i (Goes to) code goes in
      let w : MovesWithStalls m store IsAt o.given (moment_of r) (cost v.image timing i at.state) (stalls_of v.image i) to =
      takes.goes at.state to (moment_of r) i tt h.fine is h.boundary.stands went in
      let t : nat_le bound at.cycles ≡ false = grind (arith, nat_tests) in
      let spent : cost v.image timing i at.state ≡ next_cost v.image timing at.state = ap (cost_at v.image timing at.state) (sym code) in
      let on = arrives m store IsAt o.given law.shows bound r (point_after p at to) w.moves
      (ready m store IsAt o.given p (Fine v) each keep bound at r h.boundary h.fine t w.moves.begins)
      (near m store IsAt o.given p (Fine v) each keep bound at r h.boundary h.fine w.moves.n w.moves.short)
      (ap₂ (λ (c d : ℕ). c + d) h.boundary.cycles spent) (instructions m store IsAt o.given p (Fine v) each keep bound at r h.boundary h.fine) in
      subst (λ (k : ℕ). IsHere (point_after p at to) (stalls + stalls_of v.image i) (turns m store (Some bound) k r)) spent (record {
        boundary = on.is;
        fine = keep.stays at.state to h.fine goes;
        stalled = on.stalled ∙ (w.stalled ∙ ap (λ (k : ℕ). k + stalls_of v.image i) h.stalled);
      })

  -- an instruction that the stack's end cuts short
  cut_following : (at : Point) (stalls : ℕ) (r : MicroRun S) (i : Instr) (left : State) → IsHere at stalls r → at.cycles < bound →
      instr_at v.image.text at.state.at ≡ Some i → step_outcome v.image v.map.stack_end at.state ≡ Limits left →
      (n : ℕ) × StoppedWithin (stalls + stalls_of v.image i) (turns m store (Some bound) n r)
  cut_following at stalls r i left h below code limits =
      let is : IsNext v o at.state i = next_of v o loads known at.state h.fine i code in
      let over : Overran v.image v.map.stack_end at.state left i = said v o loads known at.state i (Limits left) code limits in
      let w : OverrunsWithStalls m store IsAt o.given (moment_of r) (stalls_of v.image i) left = takes.limits at.state left (moment_of r) i tt h.fine is h.boundary.stands over in
      let t : nat_le bound at.cycles ≡ false = grind (arith, nat_tests) in
      let whole = overrun m store IsAt o.given p (Fine v) each keep bound at r h.boundary h.fine left w.overruns t in
      (suc w.overruns.n + 1, subst (λ (x : MicroRun S). StoppedWithin (stalls + stalls_of v.image i) x) (sym whole) (record { end = refl; stalled = omega (arith, w.stalled, h.stalled) }))

  module _ (entry booting : ℕ) (input : List ℕ) (boots : MovesWithStalls m store IsAt o.given (reset_moment m entry v.main_locals o input) timing.boot booting (start_of v.main_locals input))
      (off : Boots m store IsAt o.given timing (reset_moment m entry v.main_locals o input) (start_of v.main_locals input)) where
    abbrev start : MicroRun S
    start = reset_run m entry v.main_locals (record { words = o.words; untaken = input; given = o.given })

    first : IsHere (first_point p v.main_locals input) booting (turns m store (Some bound) timing.boot start)
    first =
        let on = arrives m store IsAt o.given law.shows bound start (first_point p v.main_locals input) boots.moves
        (ready_first m store IsAt p entry v.main_locals o input off law.shows bound) (omega (arith, boots.moves.short)) (omega arith) refl in
        record { boundary = on.is; fine = fine_start v known input; stalled = on.stalled ∙ (boots.stalled ∙ zero-add booting) }

    here : (at : Point) (stalls : ℕ) → HasStalled booting stalls_of p bound (first_point p v.main_locals input) at stalls → IsHere at stalls (turns m store (Some bound) at.cycles start)
    here at stalls (Booted at' same) = subst (λ (x : Point). IsHere x booting (turns m store (Some bound) x.cycles start)) (sym same) first
    here at stalls (Following before at' k i to past below code goes same) =
        let h : IsHere before k (turns m store (Some bound) before.cycles start) = here before k past in
        let g : IsHere (point_after p before to) (k + stalls_of v.image i) (turns m store (Some bound) (next_cost v.image timing before.state) (turns m store (Some bound) before.cycles start)) =
        following before k (turns m store (Some bound) before.cycles start) i to h below code goes in
        subst (λ (x : Point). IsHere x (k + stalls_of v.image i) (turns m store (Some bound) x.cycles start)) (sym same)
        (subst (λ (r : MicroRun S). IsHere (point_after p before to) (k + stalls_of v.image i) r)
        (sym (turns-add m store bound before.cycles (next_cost v.image timing before.state) start)) g)

    pub stalled_at : (at : Point) (stalls : ℕ) → HasStalled booting stalls_of p bound (first_point p v.main_locals input) at stalls → (turns m store (Some bound) at.cycles start).counts.stalls ≡ stalls
    stalled_at at stalls h = (here at stalls h).stalled

    pub cut_at : (at : Point) (stalls : ℕ) (i : Instr) (left : State) → HasStalled booting stalls_of p bound (first_point p v.main_locals input) at stalls → at.cycles < bound →
        instr_at v.image.text at.state.at ≡ Some i → step_outcome v.image v.map.stack_end at.state ≡ Limits left →
        (n : ℕ) × StoppedWithin (stalls + stalls_of v.image i) (turns m store (Some bound) n start)
    cut_at at stalls i left h below code limits =
        let c = cut_following at stalls (turns m store (Some bound) at.cycles start) i left (here at stalls h) below code limits in
        (at.cycles + c.0, subst (λ (r : MicroRun S). StoppedWithin (stalls + stalls_of v.image i) r) (sym (turns-add m store bound at.cycles c.0 start)) c.1)
