-- A unit of a program, and which of its locals are set where these variables are seen.
use Rattle.tiny_notes.proofs.Common.{◌≡◌, ◌<◌, ◌≤◌, ◌⊎◌, inl, inr, ℕ, ◌+◌, ◌-◌, ◌==◌, Bool, true, false, if◌then◌else◌, length, Some, None, refl, ap, ◌∙◌}
use Rattle.tiny_notes.proofs.Common.{arith}
use Rattle.tiny_notes.proofs.Common.{nat_lt, eqb-true, le-ltb, ltb-false, Invokevirtual, FindsMethod, Frame, Locals, Note, Scene, note_at, note_with, takes}
use Rattle.tiny_tree.specs.Prelude.{Program, IsCallable, Seen, seen_with}
use Rattle.tiny_code.specs.Prelude.{Places}

-- a local is set once its variable is seen
abbrev pub set_of : ℕ → Seen → Locals
set_of first seen k = if nat_lt k first then false else seen (k - first)

abbrev pub note_of : Frame → Seen → ℕ → Note
note_of f seen d = note_with f (set_of f.first seen) d

-- what a call of a function with this many parameters finds at its constant
abbrev pub CallFinds : Scene → ℕ → ℕ → Type 0
CallFinds u k parameters = FindsMethod u.frame.image (note_at u.whole) k × (takes u.frame.image (Invokevirtual k) ≡ parameters + 1)

pub record Place : Type 0 where
  pub scene : Scene
  pub places : Places
  pub program : Program
  pub in_main : Bool
  pub object : 0 < length scene.frame.image.pool
  pub finds : (g m : ℕ) → IsCallable program g m → CallFinds scene (places.entry g) m
  pub main : scene.frame.unit ≡ None → in_main ≡ true

pub set_first : (first x : ℕ) (seen : Seen) → set_of first seen (first + x) ≡ seen x
set_first first x seen =
    let place : first + x - first ≡ x = omega arith in
    ap (λ (b : Bool). if b then false else seen (first + x - first)) (le-ltb (first + x) first (omega arith)) ∙ ap seen place

pub set_wider : (first : ℕ) (seen wide : Seen) → ((x : ℕ) → seen x ≡ true → wide x ≡ true) → (k : ℕ) → set_of first seen k ≡ true
    → set_of first wide k ≡ true
set_wider first seen wide grows k h = by (nat_lt k first) h
  where
    by : (b : Bool) → (if b then false else seen (k - first)) ≡ true → (if b then false else wide (k - first)) ≡ true
    by true e = e
    by false e = grows (k - first) e

pub set_stored : (first x k : ℕ) (seen : Seen) → set_of first (seen_with seen x) k ≡ true → (set_of first seen k ≡ true) ⊎ (Some (first + x) ≡ Some k)
set_stored first x k seen h = by (nat_lt k first) refl h
  where
    at : (c : Bool) → (k - first == x) ≡ c → first ≤ k → (if c then true else seen (k - first)) ≡ true
        → (seen (k - first) ≡ true) ⊎ (Some (first + x) ≡ Some k)
    at true t le e = inr (ap Some (omega (arith, eqb-true (k - first) x t)))
    at false t le e = inl e

    by : (b : Bool) → nat_lt k first ≡ b → (if b then false else seen_with seen x (k - first)) ≡ true
        → ((if b then false else seen (k - first)) ≡ true) ⊎ (Some (first + x) ≡ Some k)
    by true t e = inl e
    by false t e = at (k - first == x) refl (ltb-false k first t) e
