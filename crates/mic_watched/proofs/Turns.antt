-- Turns of a run, and the cycles that they show.
use Rattle.mic_watched.proofs.Common.{◌≡◌, ◌+◌, ◌≤◌, ◌∙◌, ap, zero, suc, zero-add, add-zero, add-suc, ℕ, List, [], ◌++◌, length, length-append, append_assoc}
use Rattle.mic_watched.proofs.Common.{Bool, true, false, if◌then◌else◌, Option, Some, None, refl, sym, subst, arith, append-nil, nil_from_length, eq-eqb}
use Rattle.mic_watched.proofs.Common.{ne_eqb, Boundary, Counts, End, Registers, Cycle, shown_where, cycle_between, shown, cycles_of, boundary_at, boundary_in}
use Rattle.mic_clock.specs.Prelude.{Meaning, MicroRun, last_cycles, cycles_in, turns, turns-last, turns-plus, turns-suc, turn-counts, counts_at, counts_between, counts_after}

module _ {State : Type 0} (m : Meaning State) (words : List ℕ) (bound : Option ℕ) where
  -- the cycles of turns, counted from the first one
  pub cycles-plus : (n k : ℕ) (r : MicroRun State) → cycles_of m words bound (n + k) r ≡ cycles_of m words bound n r ++ cycles_of m words bound k (turns m words bound n r)
  cycles-plus n zero r = ap (λ (x : ℕ). cycles_of m words bound x r) (add-zero n) ∙ sym (append-nil (cycles_of m words bound n r))
  cycles-plus n (suc k) r =
      ap (λ (x : ℕ). cycles_of m words bound x r) (add-suc n k)
      ∙ ((λ i. cycles-plus n k r i ++ shown m words (turns-plus m words bound n k r i) (turns-last m words bound n k r i))
      ∙ append_assoc (cycles_of m words bound n r) (cycles_of m words bound k (turns m words bound n r))
      (shown m words (turns m words bound k (turns m words bound n r)) (turns m words bound (suc k) (turns m words bound n r))))

-- as many cycles are shown as were counted

shown_long : (end : Option End) (c : Cycle) → length (shown_where end c) ≡ cycles_in end
shown_long (Some e) c = refl
shown_long None c = refl

module _ {State : Type 0} (m : Meaning State) (words : List ℕ) where
  counts_of : (bound : Option ℕ) (k : ℕ) (r : MicroRun State) → length (cycles_of m words bound k r) + r.counts.cycles ≡ (turns m words bound k r).counts.cycles
  counts_of bound zero r = zero-add r.counts.cycles
  counts_of bound (suc k) r =
      let t : MicroRun State = turns m words bound k r in
      let q : MicroRun State = turns m words bound (suc k) r in
      let before = counts_of bound k r in
      let all : length (cycles_of m words bound (suc k) r) ≡ length (cycles_of m words bound k r) + length (shown m words t q) = length-append (cycles_of m words bound k r) (shown m words t q) in
      let long : length (shown m words t q) ≡ cycles_in q.end = shown_long q.end (cycle_between m words t.state q.state q.counts) in
      let last : t.counts.cycles + cycles_in q.end ≡ q.counts.cycles =
      subst (λ (x : MicroRun State). t.counts.cycles + cycles_in x.end ≡ x.counts.cycles) (sym (turns-suc m words bound r k)) (turn-counts m words bound t) in
      omega (arith, before, all, long, last)

  -- turns that count no cycle show none
  pub cycles-none : (bound : Option ℕ) (k : ℕ) (r : MicroRun State) → (turns m words bound k r).counts.cycles ≡ r.counts.cycles → cycles_of m words bound k r ≡ []
  cycles-none bound k r same =
      let all = counts_of bound k r in
      nil_from_length (cycles_of m words bound k r) (omega (arith, all, same))

-- the counts show the boundary that a counted cycle reached
at_none : (b : Option Boundary) (cycles : ℕ) → last_cycles b ≤ cycles → boundary_at b (cycles + 1) ≡ None
at_none None cycles h = refl
at_none (Some b) cycles h =
    let differ : b.cycles ≡ cycles + 1 → ⊥ = λ e. omega (arith, e, h) in
    rw (ne_eqb b.cycles (cycles + 1) differ) refl

by_boundary : (b : Bool) (c : Counts) (stalled : Bool) (at : ℕ) (r : Registers) → last_cycles c.boundary ≤ c.cycles →
    boundary_in (if b then counts_at c stalled at r else counts_between c stalled) ≡ (if b then Some at else None)
by_boundary true c stalled at r h = rw (eq-eqb (c.cycles + 1) (c.cycles + 1) refl) refl
by_boundary false c stalled at r h = at_none c.boundary c.cycles h

pub boundary-counted : {State : Type 0} (m : Meaning State) (c c' : Counts) (stalled : Bool) (s : State) → last_cycles c.boundary ≤ c.cycles →
    c' ≡ counts_after m c stalled s → boundary_in c' ≡ (if m.is_boundary s then Some (m.address s) else None)
boundary-counted m c c' stalled s h is = ap boundary_in is ∙ by_boundary (m.is_boundary s) c stalled (m.address s) (m.registers s) h
