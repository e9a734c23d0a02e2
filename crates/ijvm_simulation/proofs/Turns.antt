-- A pass is a number of turns of a run.
use Rattle.ijvm_simulation.proofs.Common.{◌≡◌, ℕ, zero, suc, ◌+◌, ◌-◌, ◌<◌, Bool, true, false, Option, Some, None, List, refl, arith, sym, ◌∙◌, ap, ap₂}
use Rattle.ijvm_simulation.proofs.Common.{zero-add, suc-add, nat_le, ◌==◌, ◌&&◌, is_some, nat_tests, End, Meaning, Outcome, Done, MicroRun, turn, turn_by}
use Rattle.ijvm_simulation.proofs.Common.{turns, bounded, bounded_by, end_before, after_end_or_step, after_step, last_cycles, number_of}
use Rattle.ijvm_simulation.specs.Passes.{Moment, is_inside, outcome_at, stalls_at, pass, last, pass_on}
use Rattle.ijvm_simulation.proofs.Passes.{not_boundary, Inner, inner, Last, last_is}

abbrev pub moment_of : {State : Type 0} → MicroRun State → Moment State
moment_of r = record { state = r.state; world = r.world; stalls = r.counts.stalls }

module _ {State : Type 0} (m : Meaning State) where
  -- the run at a moment inside an instruction, after c cycles
  abbrev pub run_inside : MicroRun State → ℕ → Moment State → MicroRun State
  run_inside r c p =
      record {
        state = p.state;
        world = p.world;
        counts = record { cycles = c; instructions = r.counts.instructions; stalls = p.stalls; boundary = r.counts.boundary };
        end = None;
      }

  -- the run at the boundary that a pass comes to, after c cycles
  abbrev pub run_at : MicroRun State → ℕ → Moment State → MicroRun State
  run_at r c p =
      record {
        state = p.state;
        world = p.world;
        counts = record {
          cycles = c;
          instructions = r.counts.instructions + number_of (is_some r.counts.boundary);
          stalls = p.stalls;
          boundary = Some (record { cycles = c; at = m.address p.state; sp = (m.registers p.state).sp; lv = (m.registers p.state).lv });
        };
        end = None;
      }

  -- the next turn clocks a step
  pub record IsReady (bound : ℕ) (r : MicroRun State) : Type 0 where
    pub no_bound : (m.is_boundary r.state && nat_le bound r.counts.cycles) ≡ false
    pub no_halt : ((m.registers r.state).mpc == 255) ≡ false
    pub no_err : ((m.registers r.state).mpc == 254) ≡ false
    pub not_ended : r.end ≡ None

module _ {State : Type 0} (m : Meaning State) (program : List ℕ) (bound : ℕ) where
  -- one turn, with the test of the bound before it
  abbrev pub whole_turn : MicroRun State → MicroRun State
  whole_turn r = turn m program (bounded m (Some bound) r)

  pub turns-add : (n k : ℕ) (r : MicroRun State) → turns m program (Some bound) (n + k) r ≡ turns m program (Some bound) k (turns m program (Some bound) n r)
  turns-add zero k r = ap (λ (i : ℕ). turns m program (Some bound) i r) (zero-add k)
  turns-add (suc n) k r = ap (λ (i : ℕ). turns m program (Some bound) i r) (suc-add n k) ∙ turns-add n k (whole_turn r)

  -- an ended run stays
  turn_ended : (r : MicroRun State) (e : End) → r.end ≡ Some e → whole_turn r ≡ r
  turn_ended r e h = ap (λ (x : Option End). turn m program (bounded_by m x bound r)) h ∙ ap (λ (x : Option End). turn_by m program x r) h

  pub ended_stays : (k : ℕ) (r : MicroRun State) (e : End) → r.end ≡ Some e → turns m program (Some bound) k r ≡ r
  ended_stays zero r e h = refl
  ended_stays (suc k) r e h = ap (turns m program (Some bound) k) (turn_ended r e h) ∙ ended_stays k r e h

  pub unbounded : (r : MicroRun State) → IsReady m bound r → bounded m (Some bound) r ≡ r
  unbounded r h = ap (λ (e : Option End). bounded_by m e bound r) h.not_ended ∙ by_test (m.is_boundary r.state) (nat_le bound r.counts.cycles) refl refl
    where
      by_test : (a b : Bool) → m.is_boundary r.state ≡ a → nat_le bound r.counts.cycles ≡ b → bounded_by m None bound r ≡ r
      by_test true true e f = absurd (let t : (m.is_boundary r.state && nat_le bound r.counts.cycles) ≡ false = h.no_bound in grind (arith, nat_tests))
      by_test true false e f = rw (e, f)
      by_test false b e f = rw e

  -- a turn that comes to no microstep
  pub ending_turn : (r : MicroRun State) (e : End) → r.end ≡ None → m.is_boundary r.state ≡ false → end_before m r.state r.counts ≡ Some e → whole_turn r ≡ after_end_or_step m program (Some e) r
  ending_turn r e not_ended off h =
      let same : bounded m (Some bound) r ≡ r = ap (λ (x : Option End). bounded_by m x bound r) not_ended ∙ rw off in
      ap (turn m program) same ∙ (ap (λ (x : Option End). turn_by m program x r) not_ended ∙ ap (λ (x : Option End). after_end_or_step m program x r) h)

  pub clocks : (r : MicroRun State) (o : Outcome State) → IsReady m bound r → r.counts.cycles < last_cycles r.counts.boundary + 1024 →
      outcome_at m program (moment_of r) ≡ o → whole_turn r ≡ after_step m program r o
  clocks r o h nearby is =
      let h2 = h.no_halt in
      let h3 = h.no_err in
      let near1 : nat_le 1024 (r.counts.cycles - last_cycles r.counts.boundary) ≡ false = grind (arith, nat_tests) in
      ap (turn m program) (unbounded r h) ∙ (ap (λ (e : Option End). turn_by m program e r) h.not_ended ∙ rw (h2, h3, near1) (ap (after_step m program r) is))

  -- a clocked step that stays inside
  stepped_inside : (r : MicroRun State) (p : Moment State) (c : ℕ) → c ≡ r.counts.cycles + 1 → m.is_boundary p.state ≡ false → p.stalls ≡ stalls_at m program (moment_of r) →
      after_step m program r (Done p.state p.world) ≡ run_inside m r c p
  stepped_inside r p c is off stalls = rw (off, is, stalls)

  stepped_last : (r : MicroRun State) (p : Moment State) (c : ℕ) → c ≡ r.counts.cycles + 1 → m.is_boundary p.state ≡ true → p.stalls ≡ stalls_at m program (moment_of r) →
      after_step m program r (Done p.state p.world) ≡ run_at m r c p
  stepped_last r p c is at stalls = rw (at, is, stalls)

  pub ready_inside : (r : MicroRun State) (p : Moment State) (c : ℕ) → is_inside m p.state ≡ true → IsReady m bound (run_inside m r c p)
  ready_inside r p c h = record { no_bound = grind (arith, nat_tests); no_halt = grind (arith, nat_tests); no_err = grind (arith, nat_tests); not_ended = refl }

  -- the turn of a pass's first step
  first_turn : (n : ℕ) (r : MicroRun State) (q : Moment State) → IsReady m bound r → r.counts.cycles < last_cycles r.counts.boundary + 1024 →
      (i : Inner m program (pass m program n) (stalls_at m program (moment_of r)) (outcome_at m program (moment_of r)) q) →
      whole_turn r ≡ run_inside m r (r.counts.cycles + 1) i.mid
  first_turn n r q ready nearby i =
      let off : m.is_boundary i.mid.state ≡ false = not_boundary m i.mid.state i.inside in
      clocks r (Done i.mid.state i.mid.world) ready nearby i.is ∙ stepped_inside r i.mid (r.counts.cycles + 1) refl off i.counted

  -- a pass to the next boundary
  pub pass_turns : (n : ℕ) (r : MicroRun State) (q : Moment State) (c : ℕ) → c ≡ r.counts.cycles + n + 1 → IsReady m bound r →
      r.counts.cycles + n < last_cycles r.counts.boundary + 1024 → pass m program n (moment_of r) ≡ Some q → m.is_boundary q.state ≡ true →
      turns m program (Some bound) (suc n) r ≡ run_at m r c q
  pass_turns zero r q c is ready nearby h at =
      let l : Last m program (stalls_at m program (moment_of r)) (outcome_at m program (moment_of r)) q = last_is m program _ _ q h in
      clocks r (Done q.state q.world) ready (omega arith) l.is ∙ stepped_last r q c (omega arith) at l.counted
  pass_turns (suc n) r q c is ready nearby h at =
      let i : Inner m program (pass m program n) (stalls_at m program (moment_of r)) (outcome_at m program (moment_of r)) q = inner m program (pass m program n) _ _ q h in
      let next : MicroRun State = run_inside m r (r.counts.cycles + 1) i.mid in
      (ap (turns m program (Some bound) (suc n)) (first_turn n r q ready (omega arith) i)
      ∙ pass_turns n next q c (omega arith) (ready_inside r i.mid (r.counts.cycles + 1) i.inside) (omega arith) i.rest at)

  -- a pass that comes to no boundary
  pub pass_turns_inside : (n : ℕ) (r : MicroRun State) (q : Moment State) (c : ℕ) → c ≡ r.counts.cycles + n + 1 → IsReady m bound r →
      r.counts.cycles + n < last_cycles r.counts.boundary + 1024 → pass m program n (moment_of r) ≡ Some q → m.is_boundary q.state ≡ false →
      turns m program (Some bound) (suc n) r ≡ run_inside m r c q
  pass_turns_inside zero r q c is ready nearby h off =
      let l : Last m program (stalls_at m program (moment_of r)) (outcome_at m program (moment_of r)) q = last_is m program _ _ q h in
      clocks r (Done q.state q.world) ready (omega arith) l.is ∙ stepped_inside r q c (omega arith) off l.counted
  pass_turns_inside (suc n) r q c is ready nearby h off =
      let i : Inner m program (pass m program n) (stalls_at m program (moment_of r)) (outcome_at m program (moment_of r)) q = inner m program (pass m program n) _ _ q h in
      let next : MicroRun State = run_inside m r (r.counts.cycles + 1) i.mid in
      (ap (turns m program (Some bound) (suc n)) (first_turn n r q ready (omega arith) i)
      ∙ pass_turns_inside n next q c (omega arith) (ready_inside r i.mid (r.counts.cycles + 1) i.inside) (omega arith) i.rest off)

  -- what a shorter pass comes to
  pub record Shorter (k : ℕ) (p : Moment State) : Type 0 where
    pub to : Moment State
    pub passes : pass m program k p ≡ Some to
    pub inside : is_inside m to.state ≡ true

  pub shorter : (n k : ℕ) (p q : Moment State) → k < n → pass m program n p ≡ Some q → Shorter k p
  shorter zero k p q l h = absurd (omega arith)
  shorter (suc n) zero p q l h =
      let i : Inner m program (pass m program n) (stalls_at m program p) (outcome_at m program p) q = inner m program (pass m program n) _ _ q h in
      record { to = i.mid; passes = ap₂ (last m program) (sym i.counted) i.is; inside = i.inside }
  shorter (suc n) (suc k) p q l h =
      let i : Inner m program (pass m program n) (stalls_at m program p) (outcome_at m program p) q = inner m program (pass m program n) _ _ q h in
      let s : Shorter k i.mid = shorter n k i.mid q (omega arith) i.rest in
      record { to = s.to; passes = pass_on m program k p (sym i.counted) i.is i.inside s.passes; inside = s.inside }

  -- no boundary is inside a pass
  pub inside_pass : (n : ℕ) (r : MicroRun State) (q : Moment State) → IsReady m bound r → r.counts.cycles + n < last_cycles r.counts.boundary + 1024 →
      pass m program n (moment_of r) ≡ Some q → (j : ℕ) → 0 < j → j < suc n → m.is_boundary (turns m program (Some bound) j r).state ≡ false
  inside_pass n r q ready nearby passes zero pos l = absurd (omega arith)
  inside_pass n r q ready nearby passes (suc j) pos l =
      let s : Shorter j (moment_of r) = shorter n j (moment_of r) q (omega arith) passes in
      let off : m.is_boundary s.to.state ≡ false = not_boundary m s.to.state s.inside in
      ap (λ (x : MicroRun State). m.is_boundary x.state) (pass_turns_inside j r s.to (r.counts.cycles + j + 1) refl ready (omega arith) s.passes off) ∙ off
