-- Where a run leads, defined backwards: from a state on it does what a meaning says, or meets the stack's end with no more output than that.
use Rattle.tiny_runs.proofs.Common.{◌≡◌, ◌≤◌, ℕ, suc, Bool, true, false, if◌then◌else◌, List, [], ◌++◌, Some, refl, sym, ap, ◌∙◌, subst, arith, append_assoc}
use Rattle.tiny_runs.proofs.Common.{nat_le, append-nil, Instr, instr_at, ImageView}
use Rattle.ijvm_meaning.specs.Prelude.{State, frames_of, base, Goes, Halts, Limits, Stuck, limited, step, step_if_any, step_outcome, same_frames, ComesTo, Here, On, NeverStuck}
use Rattle.tiny_tree.specs.Prelude.{Meaning, Ended, Cut}
pub use Rattle.tiny_runs.specs.AsMeant.{output, IsPrefix}

pub whole_prefix : (a : List ℕ) → IsPrefix a a
whole_prefix a = ([], sym (append-nil a))

pub prefix_trans : (a b c : List ℕ) → IsPrefix a b → IsPrefix b c → IsPrefix a c
prefix_trans a b c p q = (p.0 ++ q.0, q.1 ∙ ap (λ (x : List ℕ). x ++ q.0) p.1 ∙ append_assoc a p.0 q.0)

-- from this state, with at least this many instructions before a cut
pub data Led (image : ImageView) (stack_end : ℕ) (m : Meaning) : ℕ → State → Type 0 where
  Finishes : (k : ℕ) (s : State) → step_outcome image stack_end s ≡ Halts → m ≡ Ended s.given s.untaken → Led image stack_end m k s
  Stops : (s : State) → m ≡ Cut s.given → Led image stack_end m 0 s
  Limited : (k : ℕ) (s left : State) → step_outcome image stack_end s ≡ Limits left → IsPrefix s.given (output m) → Led image stack_end m k s
  Leads : (k j : ℕ) (s t : State) → step_outcome image stack_end s ≡ Goes t → j ≤ suc k → IsPrefix s.given (output m) →
      Led image stack_end m k t → Led image stack_end m j s

-- from this state the run, which never gets stuck, leads as the meaning says
pub record Follows (image : ImageView) (stack_end : ℕ) (m : Meaning) (k : ℕ) (s : State) : Type 0 where
  pub prefix : IsPrefix s.given (output m)
  pub led : NeverStuck image stack_end s → Led image stack_end m k s

module _ (image : ImageView) (stack_end : ℕ) where
  abbrev Fol : Meaning → ℕ → State → Type 0
  Fol = Follows image stack_end

  comes_on : (s t to : State) → step_outcome image stack_end s ≡ Goes t → ComesTo image stack_end t to → ComesTo image stack_end s to
  comes_on s t to e (Here to' same) = On s t to (Here s (same_frames s)) e same
  comes_on s t to e (On a b to' h e' same) = On a b to (comes_on s t a e h) e' same

  never_on : (s t : State) → step_outcome image stack_end s ≡ Goes t → NeverStuck image stack_end s → NeverStuck image stack_end t
  never_on s t e never to comes = never to (comes_on s t to e comes)

  given_prefix : (m : Meaning) (s : State) (x : Meaning) → output x ≡ s.given → m ≡ x → IsPrefix s.given (output m)
  given_prefix m s x same is = ([], ap output is ∙ same ∙ sym (append-nil s.given))

  pub goes : (m : Meaning) (j k : ℕ) (s t : State) → step_outcome image stack_end s ≡ Goes t → j ≤ suc k → IsPrefix s.given (output m) →
      Fol m k t → Fol m j s
  goes m j k s t e le p f = record { prefix = p; led = λ never. Leads k j s t e le p (f.led (never_on s t e never)) }

  pub halts : (m : Meaning) (k : ℕ) (s : State) → step_outcome image stack_end s ≡ Halts → m ≡ Ended s.given s.untaken → Fol m k s
  halts m k s e is = record { prefix = given_prefix m s (Ended s.given s.untaken) refl is; led = λ never. Finishes k s e is }

  pub cut : (m : Meaning) (k : ℕ) (s : State) → k ≡ 0 → m ≡ Cut s.given → Fol m k s
  cut m k s zero_is is =
      record { prefix = given_prefix m s _ refl is; led = λ never. subst (λ (x : ℕ). Led image stack_end m x s) (sym zero_is) (Stops s is) }

  pub stuck : (m : Meaning) (k : ℕ) (s : State) → step_outcome image stack_end s ≡ Stuck → IsPrefix s.given (output m) → Fol m k s
  stuck m k s e p = record { prefix = p; led = λ never. absurd (never s (Here s (same_frames s)) e) }

  limited_by : (b : Bool) (m : Meaning) (j k : ℕ) (s t left : State) → step_outcome image stack_end s ≡ (if b then Goes t else Limits left) →
      j ≤ suc k → IsPrefix s.given (output m) → Fol m k t → Fol m j s
  limited_by true m j k s t left e le p f = goes m j k s t e le p f
  limited_by false m j k s t left e le p f = record { prefix = p; led = λ never. Limited j s left e p }

  -- what may meet the stack's end
  pub pushes : (m : Meaning) (j k : ℕ) (s t left : State) → step_outcome image stack_end s ≡ limited stack_end left t →
      j ≤ suc k → IsPrefix s.given (output m) → Fol m k t → Fol m j s
  pushes m j k s t left e le p f = limited_by (nat_le (base (frames_of t)) stack_end) m j k s t left e le p f

  -- the outcome of the instruction that stands there
  pub at_code : (s : State) (i : Instr) → instr_at image.text s.at ≡ Some i → step_outcome image stack_end s ≡ step image stack_end i s
  at_code s i h = ap (step_if_any image stack_end s) h

  lower_led : (m : Meaning) (j k : ℕ) (s : State) → j ≤ k → Led image stack_end m k s → Led image stack_end m j s
  lower_led m j k s le (Finishes k' s' e is) = Finishes j s' e is
  lower_led m j k s le (Stops s' is) = let z : 0 ≡ j = omega (arith, le) in subst (λ (x : ℕ). Led image stack_end m x s') z (Stops s' is)
  lower_led m j k s le (Limited k' s' left e p) = Limited j s' left e p
  lower_led m j k s le (Leads i k' s' t e le' p l) = Leads i j s' t e (omega (arith, le, le')) p l

  pub lower : (m : Meaning) (j k : ℕ) (s : State) → j ≤ k → Fol m k s → Fol m j s
  lower m j k s le f = record { prefix = f.prefix; led = λ never. lower_led m j k s le (f.led never) }
