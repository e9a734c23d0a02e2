-- The whole run of a machine of which it is known what each instruction takes: it is the definition's run.
use Rattle.ijvm_simulation.proofs.Common.{◌≡◌, ℕ, zero, suc, ◌+◌, ◌-◌, ◌<◌, ◌≤◌, true, false, Some, None, List, refl, arith, sym, ◌∙◌, ap, subst, inl, inr}
use Rattle.ijvm_simulation.proofs.Common.{nat_le, cases_lt, nat_tests, none-some, same_Some, World, Meaning, MicroRun, turns}
use Rattle.ijvm_meaning.specs.declared.run.RunEnd.TheVariants as defined
use Rattle.ijvm_meaning.specs.Prelude.{State, TimedImage, Point, Finish, point_after, finish_from, after_test, stopped}
use Rattle.ijvm_simulation.specs.Prelude.{nth_point, board_end, IsBoundary, IsEnd, Simulates}
use Rattle.ijvm_simulation.proofs.Turns.{turns-add, ended_stays}
use Rattle.ijvm_simulation.proofs.Instruction.{Law, Keeps, Turnout, On, Over, turnout}

module _ {S : Type 0} (m : Meaning S) (words : List ℕ) (IsAt : State → S → World → Type 0) (before : List ℕ) (p : TimedImage) (Fine : State → Type 0)
    (law : Law m words IsAt before p Fine) (keep : Keeps p Fine) (bound : ℕ) where
  abbrev Here : (at : Point) (r : MicroRun S) → IsBoundary IsAt at r → Fine at.state → Type 0
  Here at r h fine = Turnout m words IsAt before p Fine law keep bound at r h fine

  -- a turn of a run
  abbrev after : ℕ → MicroRun S → MicroRun S
  after n r = turns m words (Some bound) n r

  -- the run after an instruction's turns
  onward : (k n c : ℕ) (r : MicroRun S) → c ≡ k + n → after c r ≡ after n (after k r)
  onward k n c r e = ap (λ (i : ℕ). after i r) e ∙ turns-add m words bound k n r

  -- a boundary of the definition's run is one of the clocked run
  pub record Reached (at : Point) (r : MicroRun S) (t : Point) : Type 0 where
    pub k : ℕ
    pub later : t.cycles ≡ at.cycles + k
    pub is : IsBoundary IsAt t (after k r)

  abbrev Reaches : ℕ → Type 0
  Reaches i = (at : Point) (r : MicroRun S) (t : Point) → IsBoundary IsAt at r → Fine at.state → nth_point p bound i at ≡ Some t → Reached at r t

  reaches_by : (i : ℕ) → Reaches i → (at : Point) (r : MicroRun S) (t : Point) (h : IsBoundary IsAt at r) (fine : Fine at.state) → Here at r h fine → nth_point p bound (suc i) at ≡ Some t → Reached at r t
  reaches_by i later at r t h fine (On to ok finish points v) is =
      let l : Reached (point_after p at to) (after v.k r) t = later (point_after p at to) (after v.k r) t v.is ok (sym (points i) ∙ is) in
      record {
        k = v.k + l.k;
        later = omega (arith, l.later, v.spent);
        is = subst (λ (x : MicroRun S). IsBoundary IsAt t x) (sym (onward v.k l.k (v.k + l.k) r refl)) l.is;
      }
  reaches_by i later at r t h fine (Over f finish points v) is = absurd (none-some _ (sym (points i) ∙ is))

  pub reaches : (i : ℕ) → Reaches i
  reaches zero at r t h fine is =
      let same : at ≡ t = same_Some at t is in
      record { k = 0; later = ap (λ (x : Point). x.cycles) (sym same) ∙ omega arith; is = subst (λ (x : Point). IsBoundary IsAt x r) same h }
  reaches (suc i) at r t h fine is = reaches_by i (reaches i) at r t h fine (turnout m words IsAt before p Fine law keep bound at r h fine) is

  -- where the definition's run ends, the clocked run has ended
  pub record Stopped (r : MicroRun S) (f : Finish) : Type 0 where
    pub k : ℕ
    pub is : IsEnd before f (after k r)

  abbrev Stops : ℕ → Type 0
  Stops n = (at : Point) (r : MicroRun S) (f : Finish) → IsBoundary IsAt at r → Fine at.state → finish_from p bound n at ≡ Some f → Stopped r f

  stops_by : (n : ℕ) → Stops n → (at : Point) (r : MicroRun S) (f : Finish) (h : IsBoundary IsAt at r) (fine : Fine at.state) → Here at r h fine → finish_from p bound (suc n) at ≡ Some f → Stopped r f
  stops_by n later at r f h fine (On to ok finish points v) is =
      let l : Stopped (after v.k r) f = later (point_after p at to) (after v.k r) f v.is ok (sym (finish n) ∙ is) in
      record { k = v.k + l.k; is = subst (λ (x : MicroRun S). IsEnd before f x) (sym (onward v.k l.k (v.k + l.k) r refl)) l.is }
  stops_by n later at r f h fine (Over g finish points v) is =
      record { k = v.k; is = subst (λ (x : Finish). IsEnd before x (after v.k r)) (same_Some g f (sym (finish n) ∙ is)) v.is }

  pub stops : (n : ℕ) → Stops n
  stops zero at r f h fine is = absurd (cc)
  stops (suc n) at r f h fine is = stops_by n (stops n) at r f h fine (turnout m words IsAt before p Fine law keep bound at r h fine) is

  -- the definition's run ends: each instruction has cycles, which come to the bound
  abbrev Finishes : ℕ → Type 0
  Finishes d = (at : Point) (r : MicroRun S) → IsBoundary IsAt at r → Fine at.state → bound ≤ at.cycles + d → (n : ℕ) × (f : Finish) × (finish_from p bound n at ≡ Some f)

  finishes_by : (d : ℕ) → Finishes d → (at : Point) (r : MicroRun S) (h : IsBoundary IsAt at r) (fine : Fine at.state) → Here at r h fine → bound ≤ at.cycles + suc d →
      (n : ℕ) × (f : Finish) × (finish_from p bound n at ≡ Some f)
  finishes_by d later at r h fine (On to ok finish points v) le =
      let l = later (point_after p at to) (after v.k r) v.is ok (omega (arith, v.spent, v.some)) in
      (suc l.0, l.1, finish l.0 ∙ l.2)
  finishes_by d later at r h fine (Over f finish points v) le = (1, f, finish 0)

  pub finishes : (d : ℕ) → Finishes d
  finishes zero at r h fine le =
      let t : nat_le bound at.cycles ≡ true = grind (arith, nat_tests) in
      (1, stopped at defined.Bound at.state, ap (after_test (finish_from p bound 0) p at) t)
  finishes (suc d) at r h fine le = finishes_by d (finishes d) at r h fine (turnout m words IsAt before p Fine law keep bound at r h fine) le

  -- a boundary of the clocked run is one of the definition's
  pub record Known (at : Point) (n : ℕ) : Type 0 where
    pub i : ℕ
    pub t : Point
    pub are : nth_point p bound i at ≡ Some t
    pub later : t.cycles ≡ at.cycles + n

  abbrev Knows : ℕ → Type 0
  Knows d = (n : ℕ) → n ≤ d → (at : Point) (r : MicroRun S) → IsBoundary IsAt at r → Fine at.state → (after n r).end ≡ None → m.is_boundary (after n r).state ≡ true → Known at n

  knows_by : (d : ℕ) → Knows d → (n : ℕ) → n ≤ suc d → 0 < n → (at : Point) (r : MicroRun S) (h : IsBoundary IsAt at r) (fine : Fine at.state) → Here at r h fine →
      (after n r).end ≡ None → m.is_boundary (after n r).state ≡ true → Known at n
  knows_by d later n le pos at r h fine (On to ok finish points v) not_ended here =
      elim (cases_lt n v.k) [
        | inl low ↦ absurd (let off : m.is_boundary (after n r).state ≡ false = v.inside n pos low in cc)
        | inr high ↦
            let e : after n r ≡ after (n - v.k) (after v.k r) = onward v.k (n - v.k) n r (omega arith) in
            let l : Known (point_after p at to) (n - v.k) =
            later (n - v.k) (omega (arith, v.some)) (point_after p at to) (after v.k r) v.is ok (ap (λ (x : MicroRun S). x.end) (sym e) ∙ not_ended)
            (ap (λ (x : MicroRun S). m.is_boundary x.state) (sym e) ∙ here) in
            record { i = suc l.i; t = l.t; are = points l.i ∙ l.are; later = omega (arith, l.later, v.spent) }
      ]
  knows_by d later n le pos at r h fine (Over f finish points v) not_ended here =
      elim (cases_lt n v.k) [
        | inl low ↦ absurd (let off : m.is_boundary (after n r).state ≡ false = v.quiet n pos low in cc)
        | inr high ↦
            let e : after n r ≡ after v.k r =
            onward v.k (n - v.k) n r (omega arith) ∙ ended_stays m words bound (n - v.k) (after v.k r) (board_end f.end) v.is.end in
            absurd (none-some _ (sym not_ended ∙ (ap (λ (x : MicroRun S). x.end) e ∙ v.is.end)))
      ]

  pub knows : (d : ℕ) → Knows d
  knows d zero le at r h fine not_ended here = record { i = 0; t = at; are = refl; later = omega arith }
  knows zero (suc n) le at r h fine not_ended here = absurd (omega arith)
  knows (suc d) (suc n) le at r h fine not_ended here =
      knows_by d (knows d) (suc n) le (omega arith) at r h fine (turnout m words IsAt before p Fine law keep bound at r h fine) not_ended here

  -- The run from its reset: it comes to a first boundary, and to none before.
  module _ (first : Point) (start : MicroRun S) (booted : IsBoundary IsAt first (after first.cycles start)) (fine : Fine first.state)
      (quiet : (n : ℕ) → 0 < n → n < first.cycles → m.is_boundary (after n start).state ≡ false) where
    from_start : (k c : ℕ) → c ≡ first.cycles + k → after k (after first.cycles start) ≡ after c start
    from_start k c e = sym (onward first.cycles k c start e)

    pub simulates : Simulates m IsAt words bound p first before start
    simulates = record {
      reaches = λ i t is.
          let l : Reached first (after first.cycles start) t = reaches i first (after first.cycles start) t booted fine is in
          subst (λ (x : MicroRun S). IsBoundary IsAt t x) (from_start l.k t.cycles l.later) l.is;
      only = λ n pos not_ended here. elim (cases_lt n first.cycles) [
        | inl low ↦ absurd (let off : m.is_boundary (after n start).state ≡ false = quiet n pos low in cc)
        | inr high ↦
            let e : after (n - first.cycles) (after first.cycles start) ≡ after n start = from_start (n - first.cycles) n (omega arith) in
            let k : Known first (n - first.cycles) =
            knows (n - first.cycles) (n - first.cycles) (omega arith) first (after first.cycles start) booted fine
            (ap (λ (x : MicroRun S). x.end) e ∙ not_ended) (ap (λ (x : MicroRun S). m.is_boundary x.state) e ∙ here) in
            (k.i, k.t, k.are, omega (arith, k.later))
      ];
      finishes =
          let f = finishes bound first (after first.cycles start) booted fine (omega arith) in
          (f.1, (f.0, f.2));
      ends = λ f e.
          let l : Stopped (after first.cycles start) f = stops e.0 first (after first.cycles start) f booted fine e.1 in
          (first.cycles + l.k, subst (λ (x : MicroRun S). IsEnd before f x) (from_start l.k (first.cycles + l.k) refl) l.is);
    }
