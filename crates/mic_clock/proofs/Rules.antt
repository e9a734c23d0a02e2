-- The counts and the turns of `Run` are those of the rule.
use Rattle.mic_clock.proofs.Common.{◌≡◌, ◌≢◌, ℕ, ◌+◌, ◌≤◌, Bool, true, false, ◌&&◌, ◌==◌, if◌then◌else◌, List, Option, Some, None, IsSome, is_some, add-zero}
use Rattle.mic_clock.proofs.Common.{refl, sym, ◌∙◌, ap, subst, arith, nat_le, eq-eqb, ne_eqb, nat_tests, fault_of, Boundary, Counts, End}
use Rattle.mic_clock.specs.declared.end.End.TheVariants as ends
use Rattle.mic_clock.specs.declared.end.Tick.TheVariants as ticks
use Rattle.mic_clock.specs.Prelude.{tick_of, Meaning, Outcome, Done, Refused, MicroRun, number_of, since, completes, end_by, counts_ended, counts_after, counts_at, counts_between, end_before, word_at, after_step, after_end_or_step, turn, turn_by, turn_by_ended, EndsBefore, CountsEnd, CountsCycle, EndsAt, StepsTo, IsTurn}

module _ (mpc : ℕ) (c : Counts) where
  abbrev ends_by_tests : Bool → Bool → Bool → Option End
  ends_by_tests halt err adrift = if halt then Some ends.Halt else if err then Some ends.Err else if adrift then Some ends.Adrift else None

  -- the result of the tests keeps the rule
  tests_rule : (halt err adrift : Bool) → (mpc == 0x0FF) ≡ halt → (mpc == 0x0FE) ≡ err → nat_le 1024 (since c) ≡ adrift → EndsBefore mpc c (ends_by_tests halt err adrift)
  tests_rule true err adrift h e a =
      let at : mpc ≡ 0x0FF = grind (h, arith, nat_tests) in
      record { halt = λ p. refl; err = λ p. absurd (omega arith); adrift = λ p q r. absurd (p at); none = λ p q r. absurd (p at) }
  tests_rule false true adrift h e a =
      let at : mpc ≡ 0x0FE = grind (e, arith, nat_tests) in
      record { halt = λ p. absurd (omega arith); err = λ p. refl; adrift = λ p q r. absurd (q at); none = λ p q r. absurd (q at) }
  tests_rule false false true h e a =
      let off : mpc ≢ 0x0FF = λ p. grind (h, p, arith, nat_tests) in
      let other : mpc ≢ 0x0FE = λ p. grind (e, p, arith, nat_tests) in
      let long : 1024 ≤ since c = grind (a, arith, nat_tests) in
      record { halt = λ p. absurd (off p); err = λ p. absurd (other p); adrift = λ p q r. refl; none = λ p q r. absurd (omega (arith, long, r)) }
  tests_rule false false false h e a =
      let off : mpc ≢ 0x0FF = λ p. grind (h, p, arith, nat_tests) in
      let other : mpc ≢ 0x0FE = λ p. grind (e, p, arith, nat_tests) in
      let short : since c + 1 ≤ 1024 = grind (a, arith, nat_tests) in
      record { halt = λ p. absurd (off p); err = λ p. absurd (other p); adrift = λ p q r. absurd (omega (arith, short, r)); none = λ p q r. refl }

  -- no other result keeps it
  rule_tests : (end : Option End) → EndsBefore mpc c end → (halt err adrift : Bool) → (mpc == 0x0FF) ≡ halt → (mpc == 0x0FE) ≡ err → nat_le 1024 (since c) ≡ adrift →
      end ≡ ends_by_tests halt err adrift
  rule_tests end r true err adrift h e a = r.halt (grind (h, arith, nat_tests))
  rule_tests end r false true adrift h e a = r.err (grind (e, arith, nat_tests))
  rule_tests end r false false true h e a = r.adrift (λ p. grind (h, p, arith, nat_tests)) (λ p. grind (e, p, arith, nat_tests)) (grind (a, arith, nat_tests))
  rule_tests end r false false false h e a = r.none (λ p. grind (h, p, arith, nat_tests)) (λ p. grind (e, p, arith, nat_tests)) (grind (a, arith, nat_tests))

-- an end has these counts and no others
pub ended_as_ruled : (old : Counts) (e : End) (new : Counts) → CountsEnd old e new → new ≡ counts_ended old e
ended_as_ruled old e new h = λ i. record { cycles = h.cycles i; instructions = (h.instructions ∙ by_end (completes e)) i; stalls = h.stalls i; boundary = h.boundary i }
  where
    by_end : (b : Bool) → old.instructions + number_of (b && is_some old.boundary) ≡ (if b then old.instructions + number_of (is_some old.boundary) else old.instructions)
    by_end true = refl
    by_end false = add-zero old.instructions

counts_ended-rule : (old : Counts) (e : End) → CountsEnd old e (counts_ended old e)
counts_ended-rule old e = record { cycles = refl; stalls = refl; boundary = refl; instructions = by_end (completes e) }
  where
    by_end : (b : Bool) → (if b then old.instructions + number_of (is_some old.boundary) else old.instructions) ≡ old.instructions + number_of (b && is_some old.boundary)
    by_end true = refl
    by_end false = sym (add-zero old.instructions)

-- what a clocked cycle did is seen of the stalls
pub tick_counted : (old new : Counts) (stalled : Bool) → new.stalls ≡ old.stalls + number_of stalled →
    tick_of old new None ≡ (if stalled then ticks.Stalled else ticks.Clocked)
tick_counted old new true h =
    let more : new.stalls ≡ old.stalls + 1 = h in
    ap (λ (b : Bool). if b then ticks.Clocked else ticks.Stalled) (ne_eqb old.stalls new.stalls (λ e. omega (arith, e, more)))
tick_counted old new false h =
    let same : new.stalls ≡ old.stalls + 0 = h in
    ap (λ (b : Bool). if b then ticks.Clocked else ticks.Stalled) (eq-eqb old.stalls new.stalls (omega (arith, same)))

module _ {State : Type 0} (m : Meaning State) where
  pub end_before-rule : (s : State) (c : Counts) → EndsBefore (m.registers s).mpc c (end_before m s c)
  end_before-rule s c = tests_rule (m.registers s).mpc c _ _ _ refl refl refl

  pub ends_as_ruled : (s : State) (c : Counts) (end : Option End) → EndsBefore (m.registers s).mpc c end → end ≡ end_before m s c
  ends_as_ruled s c end h = rule_tests (m.registers s).mpc c end h _ _ _ refl refl refl

  -- a boundary reached at this cycle
  abbrev boundary_at : State → ℕ → Option Boundary
  boundary_at s cycles = Some (record { cycles = cycles; at = m.address s; sp = (m.registers s).sp; lv = (m.registers s).lv })

  -- a cycle has these counts and no others
  pub counted_as_ruled : (old : Counts) (stalled : Bool) (s : State) (new : Counts) → CountsCycle m old stalled s new → new ≡ counts_after m old stalled s
  counted_as_ruled old stalled s new h = by_boundary (m.is_boundary s) refl
    where
      by_boundary : (b : Bool) → m.is_boundary s ≡ b → new ≡ (if b then counts_at old stalled (m.address s) (m.registers s) else counts_between old stalled)
      by_boundary true e =
          let instructions : new.instructions ≡ old.instructions + number_of (is_some old.boundary) =
          h.instructions ∙ ap (λ (b : Bool). old.instructions + number_of (b && is_some old.boundary)) e in
          λ i. record { cycles = h.cycles i; instructions = instructions i; stalls = h.stalls i; boundary = (h.boundary e ∙ ap (boundary_at s) h.cycles) i }
      by_boundary false e =
          let instructions : new.instructions ≡ old.instructions =
          h.instructions ∙ (ap (λ (b : Bool). old.instructions + number_of (b && is_some old.boundary)) e ∙ add-zero old.instructions) in
          λ i. record { cycles = h.cycles i; instructions = instructions i; stalls = h.stalls i; boundary = h.between e i }

  pub counts_after-rule : (old : Counts) (stalled : Bool) (s : State) → CountsCycle m old stalled s (counts_after m old stalled s)
  counts_after-rule old stalled s = by_boundary (m.is_boundary s) refl
    where
      by_boundary : (b : Bool) → m.is_boundary s ≡ b →
          CountsCycle m old stalled s (if b then counts_at old stalled (m.address s) (m.registers s) else counts_between old stalled)
      by_boundary true e =
          record {
            cycles = refl;
            stalls = refl;
            instructions = ap (λ (b : Bool). old.instructions + number_of (b && is_some old.boundary)) (sym e);
            between = λ f. absurd (let g = sym e ∙ f in cc);
            boundary = λ f. refl;
          }
      by_boundary false e =
          record {
            cycles = refl;
            stalls = refl;
            instructions = sym (add-zero old.instructions) ∙ ap (λ (b : Bool). old.instructions + number_of (b && is_some old.boundary)) (sym e);
            between = λ f. refl;
            boundary = λ f. absurd (let g = sym e ∙ f in cc);
          }

  module _ (words : List ℕ) (r : MicroRun State) where
    abbrev step_here : Outcome State
    step_here = m.step (word_at m words r.state) r.state r.world

    abbrev is_stall : Bool
    is_stall = (m.drives (word_at m words r.state) r.state).stalled

    -- the turn of a run that ends here
    ending : (e : End) → r.end ≡ None → end_before m r.state r.counts ≡ Some e → turn m words r ≡ after_end_or_step m words (Some e) r
    ending e none is = ap (λ (x : Option End). turn_by m words x r) none ∙ ap (λ (x : Option End). after_end_or_step m words x r) is

    -- the turn of a run that comes to its microstep
    clocking : (o : Outcome State) → r.end ≡ None → end_before m r.state r.counts ≡ None → step_here ≡ o → turn m words r ≡ after_step m words r o
    clocking o none is step =
        ap (λ (x : Option End). turn_by m words x r) none ∙ (ap (λ (x : Option End). after_end_or_step m words x r) is ∙ ap (λ (x : Outcome State). after_step m words r x) step)

    turn-rule : IsTurn m words r (turn m words r)
    turn-rule =
        record {
          ended = turn_by_ended m words r.end r;
          ends = λ none e before.
              subst (λ (q : MicroRun State). EndsAt m r e q × CountsEnd r.counts e q.counts) (sym (ending e none (sym (ends_as_ruled r.state r.counts (Some e) before))))
              (record { state = refl; world = refl; end = refl }, counts_ended-rule r.counts e);
          refused = λ none before why step.
              subst (λ (q : MicroRun State). EndsAt m r (end_by (fault_of why)) q × (q.counts ≡ r.counts)) (sym (clocking (Refused why) none (sym (ends_as_ruled r.state r.counts None before)) step))
              (record { state = refl; world = refl; end = refl }, refl);
          done = λ none before s w step.
              subst (λ (q : MicroRun State). StepsTo m r is_stall s w q) (sym (clocking (Done s w) none (sym (ends_as_ruled r.state r.counts None before)) step))
              (record { state = refl; world = refl; end = refl; counts = counts_after-rule r.counts is_stall s });
        }

    IsTurn-is : (q : MicroRun State) → IsTurn m words r q → q ≡ turn m words r
    IsTurn-is q h = by_end r.end refl
      where
        by_step : (o : Outcome State) → step_here ≡ o → r.end ≡ None → EndsBefore (m.registers r.state).mpc r.counts None → q ≡ after_step m words r o
        by_step (Refused why) is none before =
            let at = h.refused none before why is in
            λ i. record { state = at.0.state i; world = at.0.world i; counts = at.1 i; end = at.0.end i }
        by_step (Done s w) is none before =
            let to = h.done none before s w is in
            let counts = counted_as_ruled r.counts is_stall s q.counts to.counts in
            λ i. record { state = to.state i; world = to.world i; counts = counts i; end = to.end i }

        by_before : (e : Option End) → end_before m r.state r.counts ≡ e → r.end ≡ None → q ≡ after_end_or_step m words e r
        by_before (Some e) is none =
            let at = h.ends none e (subst (λ (x : Option End). EndsBefore (m.registers r.state).mpc r.counts x) is (end_before-rule r.state r.counts)) in
            let counts = ended_as_ruled r.counts e q.counts at.1 in
            λ i. record { state = at.0.state i; world = at.0.world i; counts = counts i; end = at.0.end i }
        by_before None is none = by_step step_here refl none (subst (λ (x : Option End). EndsBefore (m.registers r.state).mpc r.counts x) is (end_before-rule r.state r.counts))

        by_end : (e : Option End) → r.end ≡ e → q ≡ turn_by m words e r
        by_end (Some e) is = h.ended (subst IsSome (sym is) refl)
        by_end None is = by_before (end_before m r.state r.counts) refl is

    pub IsTurn-turn : (q : MicroRun State) → (IsTurn m words r q → q ≡ turn m words r) × (q ≡ turn m words r → IsTurn m words r q)
    IsTurn-turn q = (IsTurn-is q, λ e. subst (λ (x : MicroRun State). IsTurn m words r x) (sym e) turn-rule)
