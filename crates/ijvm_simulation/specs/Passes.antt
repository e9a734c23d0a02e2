-- Passes: the microsteps of a machine from one boundary to the next.
use Rattle.std.proofs.Common.{◌≡◌, ℕ, zero, suc, ◌+◌, ◌∙◌, ap₂, Bool, true, false, Option, Some, None, List}
use Rattle.std.specs.Prelude.{not, ◌||◌, ◌==◌}
use Rattle.ijvm_simulation.specs.Common.{World, Meaning, Outcome, Done, Refused, number_of, word_at}

-- where a pass stands: the state, the world, and the stalls that are counted
pub record Moment (State : Type 0) : Type 0 where
  pub state : State
  pub world : World
  pub stalls : ℕ

module _ {State : Type 0} (m : Meaning State) where
  -- a state that is no boundary and no end
  abbrev pub is_inside : State → Bool
  is_inside s = not (m.is_boundary s || (m.registers s).mpc == 254 || (m.registers s).mpc == 255)

module _ {State : Type 0} (m : Meaning State) (program : List ℕ) where
  -- the outcome of the next microstep
  abbrev pub outcome_at : Moment State → Outcome State
  outcome_at p = m.step (word_at m program p.state) p.state p.world

  -- the stalls after the next microstep
  abbrev pub stalls_at : Moment State → ℕ
  stalls_at p = p.stalls + number_of (m.drives (word_at m program p.state) p.state).stalled

  abbrev pub last : ℕ → Outcome State → Option (Moment State)
  last stalls (Refused why) = None
  last stalls (Done s w) = Some (record { state = s; world = w; stalls = stalls })

  abbrev pub onward : (Moment State → Option (Moment State)) → ℕ → Outcome State → Option (Moment State)
  onward more stalls (Refused why) = None
  onward more stalls (Done s w) =
      elim (is_inside m s) [ true ↦ more (record { state = s; world = w; stalls = stalls }) | false ↦ None ]

  -- n + 1 microsteps, with no boundary and no end before the last
  abbrev pub pass : ℕ → Moment State → Option (Moment State)
  pass zero p = last (stalls_at p) (outcome_at p)
  pass (suc n) p = onward (pass n) (stalls_at p) (outcome_at p)

  pub onward-inside : (more : Moment State → Option (Moment State)) (p : Moment State) → is_inside m p.state ≡ true →
      onward more p.stalls (Done p.state p.world) ≡ more p
  onward-inside more p h = simp (h, onward)

  -- a pass by its first step and the pass from there
  pub pass_on : (n : ℕ) (p : Moment State) {q : Moment State} {r : Option (Moment State)} → stalls_at p ≡ q.stalls → outcome_at p ≡ Done q.state q.world →
      is_inside m q.state ≡ true → pass n q ≡ r → pass (suc n) p ≡ r
  pass_on n p {q} stalls done inside rest = ap₂ (onward (pass n)) stalls done ∙ (onward-inside (pass n) q inside ∙ rest)
