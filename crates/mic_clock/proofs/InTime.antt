-- How far the cycles of a run go.
use Rattle.mic_clock.proofs.Common.{◌≡◌, ◌⊎◌, inl, inr, ℕ, ◌+◌, ◌<◌, ◌≤◌, Bool, true, false, if◌then◌else◌, Option, Some, None, IsSome, refl, sym, ap, subst}
use Rattle.mic_clock.proofs.Common.{arith, Counts, End, Registers}
use Rattle.mic_clock.specs.Prelude.{Meaning, last_cycles, counts_at, counts_between, counts_after, InTime}

-- after a clocked cycle
clocked : (b : Bool) (c : Counts) (stalled : Bool) (at : ℕ) (r : Registers) (was : Bool) (top bound : ℕ) →
    c.cycles < last_cycles c.boundary + 1024 → last_cycles c.boundary ≤ c.cycles → bound ≤ top →
    (was ≡ true → c.cycles < bound) → (last_cycles c.boundary ≤ top) ⊎ (was ≡ true) →
    InTime top (if b then counts_at c stalled at r else counts_between c stalled) b None
clocked true c stalled at r was top bound room ordered le below (inl last) = record { cycles = omega arith; ordered = omega arith; near = omega arith; last = λ _. inr refl }
clocked true c stalled at r was top bound room ordered le below (inr here) = let lt = below here in record { cycles = omega arith; ordered = omega arith; near = omega arith; last = λ _. inr refl }
clocked false c stalled at r was top bound room ordered le below (inl last) = record { cycles = omega arith; ordered = omega arith; near = omega arith; last = λ _. inl last }
clocked false c stalled at r was top bound room ordered le below (inr here) = let lt = below here in record { cycles = omega arith; ordered = omega arith; near = omega arith; last = λ _. inl (omega arith) }

pub InTime-step : {State : Type 0} (m : Meaning State) (top bound : ℕ) (c c' : Counts) (was stalled : Bool) (s : State) (end end' : Option End) →
    end ≡ None → bound ≤ top → InTime top c was end →
    (IsSome end' → (c'.cycles ≡ c.cycles) × (c'.boundary ≡ c.boundary)) →
    (end' ≡ None → c.cycles < last_cycles c.boundary + 1024) →
    (end' ≡ None → c' ≡ counts_after m c stalled s) →
    (end' ≡ None → was ≡ true → c.cycles < bound) →
    InTime top c' (m.is_boundary s) end'
InTime-step m top bound c c' was stalled s end (Some e) not_ended le t still room counted below =
    let same = still refl in
    let last_same : last_cycles c'.boundary ≡ last_cycles c.boundary = ap last_cycles same.1 in
    record { cycles = omega (arith, same.0, t.cycles); ordered = omega (arith, same.0, last_same, t.ordered); near = omega (arith, same.0, last_same, t.near); last = λ q. cc }
InTime-step m top bound c c' was stalled s end None not_ended le t still room counted below =
    subst (λ x. InTime top x (m.is_boundary s) None) (sym (counted refl))
    (clocked (m.is_boundary s) c stalled (m.address s) (m.registers s) was top bound (room refl) t.ordered le (below refl) (t.last not_ended))

-- How far the cycles of one instruction go.
pub record InLeg (first c : Counts) (is_boundary : Bool) (end : Option End) : Type 0 where
  pub within : c.cycles ≤ last_cycles first.boundary + 1024
  pub onward : end ≡ None → first.cycles < c.cycles
  pub same : end ≡ None → is_boundary ≡ false → last_cycles c.boundary ≡ last_cycles first.boundary

clocked_inside : (b : Bool) (first c : Counts) (stalled : Bool) (at : ℕ) (r : Registers) →
    c.cycles < last_cycles c.boundary + 1024 → last_cycles c.boundary ≡ last_cycles first.boundary → first.cycles ≤ c.cycles →
    InLeg first (if b then counts_at c stalled at r else counts_between c stalled) b None
clocked_inside true first c stalled at r room same later = record { within = omega arith; onward = λ _. omega arith; same = λ _ f. absurd (cc) }
clocked_inside false first c stalled at r room same later = record { within = omega arith; onward = λ _. omega arith; same = λ _ _. same }

pub InLeg-step : {State : Type 0} (m : Meaning State) (first c c' : Counts) (stalled : Bool) (s : State) (end' : Option End) →
    c.cycles ≤ last_cycles first.boundary + 1024 → last_cycles c.boundary ≡ last_cycles first.boundary → first.cycles ≤ c.cycles →
    (IsSome end' → (c'.cycles ≡ c.cycles) × (c'.boundary ≡ c.boundary)) →
    (end' ≡ None → c.cycles < last_cycles c.boundary + 1024) →
    (end' ≡ None → c' ≡ counts_after m c stalled s) →
    InLeg first c' (m.is_boundary s) end'
InLeg-step m first c c' stalled s (Some e) within same later still room counted =
    let at = (still refl).0 in
    record { within = omega arith; onward = λ q. absurd (cc); same = λ q _. absurd (cc) }
InLeg-step m first c c' stalled s None within same later still room counted =
    subst (λ x. InLeg first x (m.is_boundary s) None) (sym (counted refl))
    (clocked_inside (m.is_boundary s) first c stalled (m.address s) (m.registers s) (room refl) same later)
