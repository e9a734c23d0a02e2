-- Lemmas on turns one after the other: how they add up, what an ended run keeps, and which cycles they count.
use Rattle.std.proofs.Common.{◌≡◌, ◌+◌, ◌-◌, ◌≤◌, ◌∙◌, ap, zero, suc, zero-add, suc-add, add-zero, add-suc, ℕ, List, Bool, true, false, if◌then◌else◌, Option, Some, None, IsSome, is_some, refl, sym, subst, arith}
use Rattle.std.specs.Prelude.{nat_le, not}
use Rattle.std.specs.Fn.{iterate}
use Rattle.mic_clock.specs.declared.counts.Counts.{Counts}
use Rattle.mic_clock.specs.declared.end.End.{End}
use Rattle.mic_clock.specs.declared.end.End.TheVariants as ends
use Rattle.mic_clock.specs.declared.registers.Registers.{Registers}
use Rattle.mic_clock.specs.Meaning.{Meaning, Outcome, Done, Refused}
use Rattle.mic_clock.specs.Run.{MicroRun, Buses, number_of, word_at, end_before, after_step, after_end_or_step, turn, turn_by, turns, buses, buses_of, bounded, bounded_by, counts_at, counts_between}

iterate-suc : {A : Type 0} (h : A → A) (n : ℕ) (x : A) → iterate h (suc n) x ≡ h (iterate h n x)
iterate-suc h zero x = refl
iterate-suc h (suc n) x = iterate-suc h n (h x)

-- ---- the test of the bound

module _ {State : Type 0} (m : Meaning State) where
  -- it changes no more than the end
  bounded_end : (bound : Option ℕ) (r : MicroRun State) → (e : Option End) × (bounded m bound r ≡ record r { end = e })
  bounded_end None r = (r.end, refl)
  bounded_end (Some bound) r = by_end r.end
    where
      by_test : (b over : Bool) → (e : Option End) × ((if b then (if over then record { state = r.state; world = r.world; counts = r.counts; end = Some ends.Bound } else r) else r) ≡ record r { end = e })
      by_test true true = (Some ends.Bound, refl)
      by_test true false = (r.end, refl)
      by_test false over = (r.end, refl)

      by_end : (was : Option End) → (e : Option End) × (bounded_by m was bound r ≡ record r { end = e })
      by_end (Some was) = (r.end, refl)
      by_end None = by_test (m.is_boundary r.state) (nat_le bound r.counts.cycles)

  pub bounded-world : (bound : Option ℕ) (r : MicroRun State) → (bounded m bound r).world ≡ r.world
  bounded-world bound r = ap (λ (x : MicroRun State). x.world) (bounded_end bound r).1

  bounded-counts : (bound : Option ℕ) (r : MicroRun State) → (bounded m bound r).counts ≡ r.counts
  bounded-counts bound r = ap (λ (x : MicroRun State). x.counts) (bounded_end bound r).1

  bounded_by_ended : (bound : ℕ) (end : Option End) (r : MicroRun State) → IsSome end → bounded_by m end bound r ≡ r
  bounded_by_ended bound (Some e) r h = refl
  bounded_by_ended bound None r h = cc

  bounded-ended : (bound : Option ℕ) (r : MicroRun State) → IsSome r.end → bounded m bound r ≡ r
  bounded-ended None r h = refl
  bounded-ended (Some bound) r h = bounded_by_ended bound r.end r h

  -- a run that the test does not end had not ended
  pub bounded-running : (bound : Option ℕ) (r : MicroRun State) → (bounded m bound r).end ≡ None → r.end ≡ None
  bounded-running bound r none = by_end r.end refl
    where
      by_end : (e : Option End) → r.end ≡ e → e ≡ None
      by_end None is = refl
      by_end (Some e) is = sym is ∙ ap (λ (x : MicroRun State). x.end) (sym (bounded-ended bound r (subst IsSome (sym is) refl))) ∙ none

-- ---- an ended run stays

pub turn_by_ended : {State : Type 0} (m : Meaning State) (words : List ℕ) (end : Option End) (r : MicroRun State) → IsSome end → turn_by m words end r ≡ r
turn_by_ended m words (Some e) r h = refl
turn_by_ended m words None r h = cc

module _ {State : Type 0} (m : Meaning State) (words : List ℕ) (bound : Option ℕ) (r : MicroRun State) where
  pub turns-suc : (n : ℕ) → turns m words bound (suc n) r ≡ turn m words (bounded m bound (turns m words bound n r))
  turns-suc n = iterate-suc (λ (x : MicroRun State). turn m words (bounded m bound x)) n r

  turns-still : (n : ℕ) → IsSome (turns m words bound n r).end → turns m words bound (suc n) r ≡ turns m words bound n r
  turns-still n h =
      let t : MicroRun State = turns m words bound n r in
      let same : bounded m bound t ≡ t = bounded-ended m bound t h in
      turns-suc n ∙ (ap (λ (x : MicroRun State). turn m words x) same ∙ turn_by_ended m words t.end t h)

  pub turns-stay : (k n : ℕ) → IsSome (turns m words bound n r).end → turns m words bound (k + n) r ≡ turns m words bound n r
  turns-stay zero n h = ap (λ (x : ℕ). turns m words bound x r) (zero-add n)
  turns-stay (suc k) n h =
      let before : turns m words bound (k + n) r ≡ turns m words bound n r = turns-stay k n h in
      ap (λ (x : ℕ). turns m words bound x r) (suc-add k n)
      ∙ (turns-still (k + n) (subst (λ (x : MicroRun State). IsSome x.end) (sym before) h) ∙ before)

  -- a run that has not ended after some turns had not after fewer
  pub turns-earlier : (k n : ℕ) → n ≤ k → (turns m words bound k r).end ≡ None → (turns m words bound n r).end ≡ None
  turns-earlier k n le none = by_end (turns m words bound n r).end refl
    where
      by_end : (e : Option End) → (turns m words bound n r).end ≡ e → e ≡ None
      by_end None is = refl
      by_end (Some e) is =
          let sum : k - n + n ≡ k = omega (arith, le) in
          let same : turns m words bound k r ≡ turns m words bound n r =
          ap (λ (j : ℕ). turns m words bound j r) (sym sum) ∙ turns-stay (k - n) n (subst IsSome (sym is) refl) in
          sym is ∙ ap (λ (x : MicroRun State). x.end) (sym same) ∙ none

-- ---- turns and their bus values, counted from the first one

module _ {State : Type 0} (m : Meaning State) (words : List ℕ) (bound : Option ℕ) where
  pub turns-plus : (n k : ℕ) (r : MicroRun State) → turns m words bound (n + k) r ≡ turns m words bound k (turns m words bound n r)
  turns-plus zero k r = ap (λ (x : ℕ). turns m words bound x r) (zero-add k)
  turns-plus (suc n) k r = ap (λ (x : ℕ). turns m words bound x r) (suc-add n k) ∙ turns-plus n k (turn m words (bounded m bound r))

  -- the turn after n + k turns
  pub turns-last : (n k : ℕ) (r : MicroRun State) → turns m words bound (suc (n + k)) r ≡ turns m words bound (suc k) (turns m words bound n r)
  turns-last n k r = ap (λ (x : ℕ). turns m words bound x r) (sym (add-suc n k)) ∙ turns-plus n (suc k) r

  pub buses-plus : (n k : ℕ) (r : MicroRun State) (old : Buses) → buses m words bound (n + k) r old ≡ buses m words bound k (turns m words bound n r) (buses m words bound n r old)
  buses-plus n zero r old = ap (λ (x : ℕ). buses m words bound x r old) (add-zero n)
  buses-plus n (suc k) r old =
      ap (λ (x : ℕ). buses m words bound x r old) (add-suc n k)
      ∙ (λ i. buses_of m words (turns-plus n k r i).state (buses-plus n k r old i) (turns-last n k r i).end)

-- ---- a turn counts a cycle, where it does not end the run

counted_one : (b : Bool) (c : Counts) (stalled : Bool) (at : ℕ) (r : Registers) → (if b then counts_at c stalled at r else counts_between c stalled).cycles ≡ c.cycles + 1
counted_one true c stalled at r = refl
counted_one false c stalled at r = refl

abbrev pub cycles_in : Option End → ℕ
cycles_in end = number_of (not (is_some end))

module _ {State : Type 0} (m : Meaning State) (words : List ℕ) where
  abbrev Counts1 : MicroRun State → MicroRun State → Type 0
  Counts1 r q = r.counts.cycles + cycles_in q.end ≡ q.counts.cycles

  step_counts : (r : MicroRun State) (o : Outcome State) → Counts1 r (after_step m words r o)
  step_counts r (Done s w) = sym (counted_one (m.is_boundary s) r.counts (m.drives (word_at m words r.state) r.state).stalled (m.address s) (m.registers s))
  step_counts r (Refused why) = add-zero r.counts.cycles

  gone_counts : (r : MicroRun State) (e : Option End) → Counts1 r (after_end_or_step m words e r)
  gone_counts r (Some e) = add-zero r.counts.cycles
  gone_counts r None = step_counts r (m.step (word_at m words r.state) r.state r.world)

  turn_counts : (r : MicroRun State) (e : Option End) → r.end ≡ e → Counts1 r (turn_by m words e r)
  turn_counts r (Some e) is = ap (λ (o : Option End). r.counts.cycles + cycles_in o) is ∙ add-zero r.counts.cycles
  turn_counts r None is = gone_counts r (end_before m r.state r.counts)

  pub turn-counts : (bound : Option ℕ) (r : MicroRun State) → r.counts.cycles + cycles_in (turn m words (bounded m bound r)).end ≡ (turn m words (bounded m bound r)).counts.cycles
  turn-counts bound r =
      let b : MicroRun State = bounded m bound r in
      let same : r.counts.cycles ≡ b.counts.cycles = ap (λ (c : Counts). c.cycles) (sym (bounded-counts m bound r)) in
      ap (λ (n : ℕ). n + cycles_in (turn m words b).end) same ∙ turn_counts b b.end refl

  turns-later : (bound : Option ℕ) (k : ℕ) (r : MicroRun State) → r.counts.cycles ≤ (turns m words bound k r).counts.cycles
  turns-later bound zero r = omega arith
  turns-later bound (suc k) r =
      let one = turn-counts bound r in
      let others : (turn m words (bounded m bound r)).counts.cycles ≤ (turns m words bound (suc k) r).counts.cycles = turns-later bound k (turn m words (bounded m bound r)) in
      omega (arith, one, others)

  -- turns that count no cycle are one turn that ends the run
  pub turns-uncounted : (bound : Option ℕ) (k : ℕ) (r : MicroRun State) → (turns m words bound (suc k) r).counts.cycles ≡ r.counts.cycles →
      (turns m words bound (suc k) r ≡ turns m words bound (suc zero) r) × IsSome (turns m words bound (suc zero) r).end
  turns-uncounted bound k r still = by_end (turns m words bound (suc zero) r).end refl
    where
      by_end : (e : Option End) → (turns m words bound (suc zero) r).end ≡ e → (turns m words bound (suc k) r ≡ turns m words bound (suc zero) r) × IsSome e
      by_end (Some e) is =
          let sum : suc k ≡ k + suc zero = omega arith in
          (ap (λ (j : ℕ). turns m words bound j r) sum ∙ turns-stay m words bound r k (suc zero) (subst IsSome (sym is) refl), refl)
      by_end None is =
          let one : r.counts.cycles + 1 ≡ (turns m words bound (suc zero) r).counts.cycles = ap (λ (o : Option End). r.counts.cycles + cycles_in o) (sym is) ∙ turn-counts bound r in
          let others : (turns m words bound (suc zero) r).counts.cycles ≤ (turns m words bound (suc k) r).counts.cycles = turns-later bound k (turns m words bound (suc zero) r) in
          absurd (omega (arith, one, others, still))
