-- What one instruction takes of a machine, and how a run goes on from a boundary or ends after it.
use Rattle.ijvm_simulation.proofs.Common.{◌≡◌, ℕ, suc, ◌+◌, ◌<◌, Bool, true, false, Option, Some, None, List, refl, arith, sym, ◌∙◌, ap, ap₂, subst, inl, inr}
use Rattle.ijvm_simulation.proofs.Common.{nat_le, ◌==◌, is_some, nat_tests, cases_lt, World, StackLimit, Boundary, Counts, End, Meaning, Refused, MicroRun}
use Rattle.ijvm_simulation.proofs.Common.{turn, turn_by, turns, bounded, after_step, after_end_or_step, end_before, completes, last_cycles, number_of, RunEnd}
use Rattle.mic_clock.specs.declared.end.End.TheVariants as clocked
use Rattle.ijvm_meaning.specs.declared.run.RunEnd.TheVariants as defined
use Rattle.ijvm_meaning.specs.Prelude.{State, StepOutcome, Goes, Halts, Errs, Limits, Stuck, step_outcome, next_cost, TimedImage, Point, Finish, point_after, finish_from, after_test, after_outcome, completed, stopped}
use Rattle.ijvm_simulation.specs.Prelude.{nth_point, below, going_on, board_end, IsBoundary, IsEnd, Moment, pass, HasWord, Moves, Stops, StopsHere, StopsAfter, Overruns, ShowsState}
use Rattle.ijvm_simulation.proofs.Passes.{not_boundary}
use Rattle.ijvm_simulation.proofs.Turns.{moment_of, run_inside, run_at, IsReady, ready_inside, whole_turn, turns-add, ending_turn, clocks, pass_turns, pass_turns_inside, inside_pass}

-- A run that moves on comes to a boundary.
module _ {S : Type 0} (m : Meaning S) (words : List ℕ) (IsAt : State → S → World → Type 0) (before : List ℕ)
    (shows : (s : State) (x : S) (w : World) → IsAt s x w → ShowsState m words IsAt before s x w) (bound : ℕ) (r : MicroRun S) where
  pub record Arrives (at : Point) (k stalls : ℕ) : Type 0 where
    pub is : IsBoundary IsAt at (turns m words (Some bound) k r)
    pub stalled : (turns m words (Some bound) k r).counts.stalls ≡ stalls

  pub arrives : {spent : ℕ} (at : Point) (v : Moves m words IsAt before (moment_of r) spent at.state) → IsReady m bound r →
      r.counts.cycles + v.n < last_cycles r.counts.boundary + 1024 → r.counts.cycles + spent ≡ at.cycles →
      r.counts.instructions + number_of (is_some r.counts.boundary) ≡ at.instructions → Arrives at spent v.there.stalls
  arrives {spent} at v ready nearby counted instructions =
      let s : ShowsState m words IsAt before at.state v.there.state v.there.world = shows at.state v.there.state v.there.world v.stands in
      let c : ℕ = r.counts.cycles + v.n + 1 in
      let cycles : c ≡ at.cycles = omega (arith, v.spent_is) in
      let e : turns m words (Some bound) (suc v.n) r ≡ run_at m r c v.there = pass_turns m words bound v.n r v.there c refl ready nearby v.passes s.boundary in
      let many : suc v.n ≡ spent = omega (arith, v.spent_is) in
      subst (λ (k : ℕ). Arrives at k v.there.stalls) many (record {
        is = subst (λ (x : MicroRun S). IsBoundary IsAt at x) (sym e) (record {
          stands = v.stands;
          cycles = cycles;
          instructions = instructions;
          boundary = λ i. Some (record { cycles = cycles i; at = s.address i; sp = s.sp i; lv = s.lv i });
          not_ended = refl;
        });
        stalled = ap (λ (x : MicroRun S). x.counts.stalls) e;
      })

-- what the states of a run have in common: each is one before it that goes on, and none is stuck
pub record Keeps (p : TimedImage) (Fine : State → Type 0) : Type 0 where
  pub stays : (s to : State) → Fine s → step_outcome p.image p.stack_end s ≡ Goes to → Fine to
  pub unstuck : (s : State) → Fine s → step_outcome p.image p.stack_end s ≡ Stuck → ⊥

-- what each instruction of a program takes, in the states that its run comes to
pub record Law {S : Type 0} (m : Meaning S) (words : List ℕ) (IsAt : State → S → World → Type 0) (before : List ℕ) (p : TimedImage) (Fine : State → Type 0) : Type 0 where
  pub shows : (s : State) (x : S) (w : World) → IsAt s x w → ShowsState m words IsAt before s x w
  pub goes : (s to : State) (q : Moment S) → Fine s → IsAt s q.state q.world → step_outcome p.image p.stack_end s ≡ Goes to →
      Moves m words IsAt before q (next_cost p.image p.timing s) to
  pub halts : (s : State) (q : Moment S) → Fine s → IsAt s q.state q.world → step_outcome p.image p.stack_end s ≡ Halts →
      Stops m words IsAt before q (next_cost p.image p.timing s) 255
  pub errs : (s : State) (q : Moment S) → Fine s → IsAt s q.state q.world → step_outcome p.image p.stack_end s ≡ Errs →
      Stops m words IsAt before q (next_cost p.image p.timing s) 254
  pub limits : (s left : State) (q : Moment S) → Fine s → IsAt s q.state q.world → step_outcome p.image p.stack_end s ≡ Limits left →
      Overruns m words IsAt before q left

module _ {S : Type 0} (m : Meaning S) (words : List ℕ) (IsAt : State → S → World → Type 0) (before : List ℕ) (p : TimedImage) (Fine : State → Type 0)
    (law : Law m words IsAt before p Fine) (keep : Keeps p Fine) (bound : ℕ) (at : Point) (r : MicroRun S) (h : IsBoundary IsAt at r) (fine : Fine at.state) where
  pub ready : nat_le bound at.cycles ≡ false → HasWord m r.state → IsReady m bound r
  ready t begins =
      let e : nat_le bound r.counts.cycles ≡ false = ap (nat_le bound) h.cycles ∙ t in
      record { no_bound = grind (arith, nat_tests); no_halt = begins.no_halt; no_err = begins.no_err; not_ended = h.not_ended }

  pub near : (n : ℕ) → n < 1024 → r.counts.cycles + n < last_cycles r.counts.boundary + 1024
  near n l =
      let e : last_cycles r.counts.boundary ≡ at.cycles = ap last_cycles h.boundary in
      omega (arith, h.cycles)

  -- the instructions that are counted at the next boundary
  pub instructions : r.counts.instructions + number_of (is_some r.counts.boundary) ≡ at.instructions + 1
  instructions = ap₂ (λ (i : ℕ) (b : Option Boundary). i + number_of (is_some b)) h.instructions h.boundary

  -- n + 1 cycles inside an instruction
  inside_turns : (n : ℕ) (there : Moment S) → nat_le bound at.cycles ≡ false → HasWord m r.state → n < 1023 → pass m words n (moment_of r) ≡ Some there →
      m.is_boundary there.state ≡ false → turns m words (Some bound) (suc n) r ≡ run_inside m r (r.counts.cycles + n + 1) there
  inside_turns n there t begins short passes off =
      pass_turns_inside m words bound n r there (r.counts.cycles + n + 1) refl (ready t begins) (near n (omega (arith, short))) passes off

  -- the boundary after an instruction that goes on
  pub record Moved (to : State) : Type 0 where
    pub k : ℕ
    pub spent : next_cost p.image p.timing at.state ≡ k
    pub some : 0 < k
    pub is : IsBoundary IsAt (point_after p at to) (turns m words (Some bound) k r)
    pub inside : (j : ℕ) → 0 < j → j < k → m.is_boundary (turns m words (Some bound) j r).state ≡ false

  pub moved : (to : State) → nat_le bound at.cycles ≡ false → step_outcome p.image p.stack_end at.state ≡ Goes to → Moved to
  moved to t goes =
      let v : Moves m words IsAt before (moment_of r) (next_cost p.image p.timing at.state) to = law.goes at.state to (moment_of r) fine h.stands goes in
      record {
        k = next_cost p.image p.timing at.state;
        spent = refl;
        some = omega (arith, v.spent_is);
        is = (arrives m words IsAt before law.shows bound r (point_after p at to) v (ready t v.begins) (near v.n v.short)
            (omega (arith, h.cycles)) instructions).is;
        inside = λ j pos l. inside_pass m words bound v.n r v.there (ready t v.begins) (near v.n v.short) v.passes j pos (omega (arith, v.spent_is));
      }

  -- the run ends after this boundary, where the definition's does
  pub record Ended (f : Finish) : Type 0 where
    pub k : ℕ
    pub some : 0 < k
    pub is : IsEnd before f (turns m words (Some bound) k r)
    pub quiet : (j : ℕ) → 0 < j → j < k → m.is_boundary (turns m words (Some bound) j r).state ≡ false

  shown : ShowsState m words IsAt before at.state r.state r.world
  shown = law.shows at.state r.state r.world h.stands

  -- by the bound
  pub bounds : nat_le bound at.cycles ≡ true → Ended (stopped at defined.Bound at.state)
  bounds t =
      let e1 : r.end ≡ None = h.not_ended in
      let e2 : m.is_boundary r.state ≡ true = shown.boundary in
      let e3 : nat_le bound r.counts.cycles ≡ true = ap (nat_le bound) h.cycles ∙ t in
      let e : bounded m (Some bound) r ≡ record r { end = Some clocked.Bound } = rw (e1, e2, e3) in
      record {
        k = 1;
        some = omega arith;
        is = subst (λ (x : MicroRun S). IsEnd before (stopped at defined.Bound at.state) x) (sym (ap (turn m words) e))
            (record { end = refl; cycles = λ ne. h.cycles; instructions = h.instructions; boundary = h.boundary; untaken = shown.untaken; given = shown.given });
        quiet = λ j pos l. absurd (omega arith);
      }

  -- by a turn after n + 1 cycles inside an instruction
  ended_by : (f : Finish) (n : ℕ) (there : Moment S) (last : MicroRun S) → nat_le bound at.cycles ≡ false → HasWord m r.state → n < 1023 →
      pass m words n (moment_of r) ≡ Some there → m.is_boundary there.state ≡ false → turns m words (Some bound) (suc n + 1) r ≡ last → IsEnd before f last → Ended f
  ended_by f n there last t begins short passes off whole is =
      record {
        k = suc n + 1;
        some = omega arith;
        is = subst (λ (x : MicroRun S). IsEnd before f x) (sym whole) is;
        quiet = λ j pos l. elim (cases_lt j (suc n)) [
          | inl low ↦ inside_pass m words bound n r there (ready t begins) (near n (omega (arith, short))) passes j pos low
          | inr high ↦
              let here : j ≡ suc n = omega arith in
              ap (λ (i : ℕ). m.is_boundary (turns m words (Some bound) i r).state) here
              ∙ (ap (λ (x : MicroRun S). m.is_boundary x.state) (inside_turns n there t begins short passes off) ∙ off)
        ];
      }

  -- what is counted where an instruction ends the run
  completed_after : (mpc : ℕ) (e : RunEnd) (v : StopsAfter m words IsAt before (moment_of r) (next_cost p.image p.timing at.state) mpc) → completes (board_end e) ≡ true →
      IsEnd before (completed p at e) (after_end_or_step m words (Some (board_end e)) (run_inside m r (r.counts.cycles + v.n + 1) v.there))
  completed_after mpc e v t =
      record {
        end = refl;
        cycles = λ ne. omega (arith, v.spent_is, h.cycles);
        instructions = rw t (instructions);
        boundary = h.boundary;
        untaken = ap (λ (w : World). w.untaken) v.world ∙ shown.untaken;
        given = ap (λ (w : World). w.given) v.world ∙ shown.given;
      }

  -- the clock ends the run here
  stops_here : (mpc : ℕ) (e : RunEnd) (v : StopsHere m words IsAt before (moment_of r) (next_cost p.image p.timing at.state) mpc) → nat_le bound at.cycles ≡ false →
      end_before m r.state r.counts ≡ Some (board_end e) → completes (board_end e) ≡ true → Ended (completed p at e)
  stops_here mpc e v t ending done =
      let e1 : r.end ≡ None = h.not_ended in
      let e2 : m.is_boundary r.state ≡ true = shown.boundary in
      let e3 : nat_le bound r.counts.cycles ≡ false = ap (nat_le bound) h.cycles ∙ t in
      let same : bounded m (Some bound) r ≡ r = rw (e1, e2, e3) in
      let last : whole_turn m words bound r ≡ after_end_or_step m words (Some (board_end e)) r =
      ap (turn m words) same ∙ (ap (λ (x : Option End). turn_by m words x r) e1 ∙ ap (λ (x : Option End). after_end_or_step m words x r) ending) in
      record {
        k = 1;
        some = omega arith;
        is = subst (λ (x : MicroRun S). IsEnd before (completed p at e) x) (sym last)
            (record {
              end = refl;
              cycles = λ ne. omega (arith, v.spent_is, h.cycles);
              instructions = rw done (instructions);
              boundary = h.boundary;
              untaken = shown.untaken;
              given = shown.given;
            });
        quiet = λ j pos l. absurd (omega arith);
      }

  stops : (mpc : ℕ) (e : RunEnd) (v : Stops m words IsAt before (moment_of r) (next_cost p.image p.timing at.state) mpc) → nat_le bound at.cycles ≡ false →
      ((x : S) (c : Counts) → (m.registers x).mpc ≡ mpc → end_before m x c ≡ Some (board_end e)) → completes (board_end e) ≡ true → Ended (completed p at e)
  stops mpc e (inl v) t ending done = stops_here mpc e v t (ending r.state r.counts v.mpc_is) done
  stops mpc e (inr v) t ending done =
      let q : MicroRun S = run_inside m r (r.counts.cycles + v.n + 1) v.there in
      ended_by (completed p at e) v.n v.there (after_end_or_step m words (Some (board_end e)) q) t v.begins v.short v.passes v.off
      (turns-add m words bound (suc v.n) 1 r
      ∙ (ap (whole_turn m words bound) (inside_turns v.n v.there t v.begins v.short v.passes v.off)
      ∙ ending_turn m words bound q (board_end e) refl v.off (ending v.there.state q.counts v.mpc_is)))
      (completed_after mpc e v done)

  pub halts : nat_le bound at.cycles ≡ false → step_outcome p.image p.stack_end at.state ≡ Halts → Ended (completed p at defined.Halt)
  halts t o = stops 255 defined.Halt (law.halts at.state (moment_of r) fine h.stands o) t ends_by refl
    where
      ends_by : (x : S) (c : Counts) → (m.registers x).mpc ≡ 255 → end_before m x c ≡ Some clocked.Halt
      ends_by x c is = let at_halt : ((m.registers x).mpc == 255) ≡ true = ap (λ (i : ℕ). i == 255) is in rw at_halt

  pub errs : nat_le bound at.cycles ≡ false → step_outcome p.image p.stack_end at.state ≡ Errs → Ended (completed p at defined.Err)
  errs t o = stops 254 defined.Err (law.errs at.state (moment_of r) fine h.stands o) t ends_by refl
    where
      ends_by : (x : S) (c : Counts) → (m.registers x).mpc ≡ 254 → end_before m x c ≡ Some clocked.Err
      ends_by x c is =
          let not_halt : ((m.registers x).mpc == 255) ≡ false = ap (λ (i : ℕ). i == 255) is in
          let at_err : ((m.registers x).mpc == 254) ≡ true = ap (λ (i : ℕ). i == 254) is in
          rw (not_halt, at_err)

  -- some cycles inside an instruction, and then a write that meets the stack's end
  pub overrun : (left : State) (v : Overruns m words IsAt before (moment_of r) left) → nat_le bound at.cycles ≡ false →
      turns m words (Some bound) (suc v.n + 1) r ≡ after_step m words (run_inside m r (r.counts.cycles + v.n + 1) v.there) (Refused (StackLimit v.at))
  overrun left v t =
      let q : MicroRun S = run_inside m r (r.counts.cycles + v.n + 1) v.there in
      let nearby : r.counts.cycles + v.n + 1 < last_cycles r.counts.boundary + 1024 = omega (arith, near (v.n + 1) (omega (arith, v.short))) in
      turns-add m words bound (suc v.n) 1 r
      ∙ (ap (whole_turn m words bound) (inside_turns v.n v.there t v.begins v.short v.passes (not_boundary m v.there.state v.inside))
      ∙ clocks m words bound q (Refused (StackLimit v.at)) (ready_inside m words bound r v.there (r.counts.cycles + v.n + 1) v.inside) nearby v.refused)

  -- by the stack limit
  pub limits : (left : State) → nat_le bound at.cycles ≡ false → step_outcome p.image p.stack_end at.state ≡ Limits left → Ended (stopped at defined.StackLimit left)
  limits left t o =
      let v : Overruns m words IsAt before (moment_of r) left = law.limits at.state left (moment_of r) fine h.stands o in
      ended_by (stopped at defined.StackLimit left) v.n v.there (after_step m words (run_inside m r (r.counts.cycles + v.n + 1) v.there) (Refused (StackLimit v.at)))
      t v.begins v.short v.passes (not_boundary m v.there.state v.inside) (overrun left v t)
      (record { end = refl; cycles = λ ne. absurd (ne refl); instructions = h.instructions; boundary = h.boundary; untaken = v.untaken; given = v.given })

  -- how both runs go on from here, or end
  pub data Turnout : Type 0 where
    On : (to : State) → Fine to → ((n : ℕ) → finish_from p bound (suc n) at ≡ finish_from p bound n (point_after p at to)) →
        ((i : ℕ) → nth_point p bound (suc i) at ≡ nth_point p bound i (point_after p at to)) → Moved to → Turnout
    Over : (f : Finish) → ((n : ℕ) → finish_from p bound (suc n) at ≡ Some f) → ((i : ℕ) → nth_point p bound (suc i) at ≡ None) → Ended f → Turnout

  finish_is : nat_le bound at.cycles ≡ false → (n : ℕ) → {out : StepOutcome} → step_outcome p.image p.stack_end at.state ≡ out →
      finish_from p bound (suc n) at ≡ after_outcome (finish_from p bound n) p at out
  finish_is t n o = ap (after_test (finish_from p bound n) p at) t ∙ ap (after_outcome (finish_from p bound n) p at) o

  point_is : nat_le bound at.cycles ≡ false → (i : ℕ) → {out : StepOutcome} → step_outcome p.image p.stack_end at.state ≡ out →
      nth_point p bound (suc i) at ≡ going_on (nth_point p bound i) p at out
  point_is t i o = ap (below (nth_point p bound i) p at) t ∙ ap (going_on (nth_point p bound i) p at) o

  by_outcome : nat_le bound at.cycles ≡ false → (out : StepOutcome) → step_outcome p.image p.stack_end at.state ≡ out → Turnout
  by_outcome t (Goes to) o =
      On to (keep.stays at.state to fine o) (λ n. finish_is t n o) (λ i. point_is t i o) (moved to t o)
  by_outcome t Halts o = Over (completed p at defined.Halt) (λ n. finish_is t n o) (λ i. point_is t i o) (halts t o)
  by_outcome t Errs o = Over (completed p at defined.Err) (λ n. finish_is t n o) (λ i. point_is t i o) (errs t o)
  by_outcome t (Limits left) o = Over (stopped at defined.StackLimit left) (λ n. finish_is t n o) (λ i. point_is t i o) (limits left t o)
  by_outcome t Stuck o = absurd (keep.unstuck at.state fine o)

  by_test : (b : Bool) → nat_le bound at.cycles ≡ b → Turnout
  by_test true t =
      Over (stopped at defined.Bound at.state) (λ n. ap (after_test (finish_from p bound n) p at) t) (λ i. ap (below (nth_point p bound i) p at) t) (bounds t)
  by_test false t = by_outcome t (step_outcome p.image p.stack_end at.state) refl

  pub turnout : Turnout
  turnout = by_test (nat_le bound at.cycles) refl
