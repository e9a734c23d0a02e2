-- From a state, with a world, a run does what a part of the meaning gives.
use Rattle.tiny_runs.proofs.Common.{◌≡◌, ◌≤◌, ℕ, zero, suc, ◌+◌, List, Option, Some, refl, sym, ap, ◌∙◌, subst, arith, slice_get, ImageView}
use Rattle.ijvm_meaning.specs.Prelude.{Frame, State, Goes, Stuck, limited, step_outcome}
use Rattle.ijvm_meaning.specs.Step.{Halts as StepHalts}
use Rattle.tiny_tree.specs.Prelude.{TinyWorld, Result, Gives, Halts, Cuts, and_then, in_turn, Variables, Meaning, Ended, Cut, ending}
use Rattle.tiny_runs.proofs.Led.{output, IsPrefix, Follows, goes, pushes, stuck, cut, halts, lower}

-- a state of the running frame, with this world
abbrev pub state : Option ℕ → List Frame → List (Option ℕ) → ℕ → List ℕ → TinyWorld → State
state back callers locals at ops w =
    record {
      running = record { locals = locals; operands = ops; back = back };
      callers = callers;
      at = at;
      untaken = w.untaken;
      given = w.given;
    }

-- the locals that are set have the variables' values, where the first variable has this local
abbrev pub Agrees : ℕ → List (Option ℕ) → Variables → Type 0
Agrees local locals vars = (x v : ℕ) → slice_get locals (local + x) ≡ Some (Some v) → v ≡ vars x

-- From this state, with this world, the run does what the result says: where it gives something, the run leads to the state that `to` says,
-- with what is known of that. `d` instructions are taken in any case.
pub record Does (image : ImageView) (stack_end d : ℕ) {A : Type 0} (r : Result A) (w : TinyWorld) (s : State)
    (Known : A → Type 0) (to : (a : A) → Known a → TinyWorld → State) : Type 0 where
  pub by : (go : A → TinyWorld → Meaning) →
      ((a : A) (x : Known a) (u : TinyWorld) → u.turns ≤ w.turns → Follows image stack_end (go a u) u.turns (to a x u)) →
      Follows image stack_end (ending r go) (d + w.turns) s

after_then : {A B : Type 0} (r : Result A) (f : A → TinyWorld → Result B) (go : B → TinyWorld → Meaning) →
    ending (and_then r f) go ≡ ending r (λ a w. ending (f a w) go)
after_then (Gives a w) f go = refl
after_then _ f go = refl

module _ {image : ImageView} {stack_end : ℕ} where
  pub does_then : {d : ℕ} {A B : Type 0} {r : Result A} {w : TinyWorld} {s : State} {K : A → Type 0} {to : (a : A) → K a → TinyWorld → State}
      {f : A → TinyWorld → Result B} {L : B → Type 0} {on : (b : B) → L b → TinyWorld → State} → Does image stack_end d r w s K to →
      ((a : A) (x : K a) (u : TinyWorld) → u.turns ≤ w.turns → Does image stack_end 0 (f a u) u (to a x u) L on) →
      Does image stack_end d (and_then r f) w s L on
  does_then {d} {A} {B} {r} {w} {s} {K} {to} {f} {L} {on} does e =
      record {
        by = λ go h. subst (λ (m : Meaning). Follows image stack_end m (d + w.turns) s) (sym (after_then r f go)) (does.by (λ a u. ending (f a u) go)
            (λ a x u le. lower image _ _ u.turns _ _ (omega arith) ((e a x u le).by go (λ b y v le'. h b y v (omega (arith, le, le'))))));
      }

  pub does_lower : {A : Type 0} {r : Result A} {w : TinyWorld} {K : A → Type 0} {to : (a : A) → K a → TinyWorld → State} {s : State} (d : ℕ) →
      Does image stack_end d r w s K to → Does image stack_end 0 r w s K to
  does_lower {A} {r} {w} {K} {to} {s} d does =
      record { by = λ go h. lower image stack_end (ending r go) (0 + w.turns) (d + w.turns) s (omega arith) (does.by go h) }

  -- an instruction on the way that puts out nothing
  pub does_after : {A : Type 0} {r : Result A} {w : TinyWorld} {K : A → Type 0} {to : (a : A) → K a → TinyWorld → State} (s t : State) →
      step_outcome image stack_end s ≡ Goes t → t.given ≡ s.given → Does image stack_end 0 r w t K to → Does image stack_end 1 r w s K to
  does_after {A} {r} {w} {K} {to} s t e same d =
      record {
        by = λ go h. let f : Follows image stack_end (ending r go) (0 + w.turns) t = d.by go h in
            goes image _ _ _ _ s t e (omega arith) (subst (λ (g : List ℕ). IsPrefix g (output (ending r go))) same f.prefix) f;
      }

  -- an instruction on the way that puts out nothing, but may meet the stack's end
  pub does_push : {A : Type 0} {r : Result A} {w : TinyWorld} {K : A → Type 0} {to : (a : A) → K a → TinyWorld → State} (s t left : State) →
      step_outcome image stack_end s ≡ limited stack_end left t → t.given ≡ s.given → Does image stack_end 0 r w t K to →
      Does image stack_end 1 r w s K to
  does_push {A} {r} {w} {K} {to} s t left e same d =
      record {
        by = λ go h. let f : Follows image stack_end (ending r go) (0 + w.turns) t = d.by go h in
            pushes image _ _ _ _ s t left e (omega arith) (subst (λ (g : List ℕ). IsPrefix g (output (ending r go))) same f.prefix) f;
      }

  -- where the run gets stuck, something else might come
  pub does_stuck : {A : Type 0} {r : Result A} {w : TinyWorld} {K : A → Type 0} {to : (a : A) → K a → TinyWorld → State} (s t : State) →
      step_outcome image stack_end s ≡ Stuck → t.given ≡ s.given → Does image stack_end 0 r w t K to → Does image stack_end 1 r w s K to
  does_stuck {A} {r} {w} {K} {to} s t e same d =
      record {
        by = λ go h. let f : Follows image stack_end (ending r go) (0 + w.turns) t = d.by go h in
            stuck image _ _ _ s e (subst (λ (g : List ℕ). IsPrefix g (output (ending r go))) same f.prefix);
      }

  -- a value is given, and the run is where that leads
  pub does_give : {A : Type 0} (a : A) (w u : TinyWorld) (K : A → Type 0) (to : (a : A) → K a → TinyWorld → State) (s : State) (x : K a) →
      u.turns ≡ w.turns → s ≡ to a x u → Does image stack_end 0 (Gives a u) w s K to
  does_give a w u K to s x same e =
      record {
        by = λ go h. let k : u.turns ≡ 0 + w.turns = omega (arith, same) in
            subst (λ (t : State). Follows image stack_end (go a u) (0 + w.turns) t) (sym e)
            (subst (λ (k : ℕ). Follows image stack_end (go a u) k (to a x u)) k (h a x u (omega (arith, same))));
      }

  -- the program ends here
  pub does_halt : {A : Type 0} (w : TinyWorld) (s : State) (K : A → Type 0) (to : (a : A) → K a → TinyWorld → State) →
      step_outcome image stack_end s ≡ StepHalts → s.given ≡ w.given → s.untaken ≡ w.untaken → Does image stack_end 0 (Halts w) w s K to
  does_halt w s K to e given untaken =
      record { by = λ go h. halts image _ _ _ s e (ap (λ (g : List ℕ). Ended g w.untaken) (sym given) ∙ ap (λ (g : List ℕ). Ended s.given g) (sym untaken)) }

  pub does_cut : {A : Type 0} (w : TinyWorld) (s : State) (K : A → Type 0) (to : (a : A) → K a → TinyWorld → State) →
      w.turns ≡ 0 → s.given ≡ w.given → Does image stack_end 0 (Cuts w) w s K to
  does_cut w s K to none given =
      record { by = λ go h. cut image stack_end (Cut w.given) (0 + w.turns) s (omega (arith, none)) (ap Cut (sym given)) }

  -- a turn, whose code takes an instruction
  pub does_turn : {A : Type 0} (w : TinyWorld) (s : State) (K : A → Type 0) (to : (a : A) → K a → TinyWorld → State) (go : TinyWorld → Result A) (t : ℕ) →
      w.turns ≡ t → s.given ≡ w.given →
      ((m : ℕ) → t ≡ suc m → Does image stack_end 1 (go (record w { turns = m })) (record w { turns = m }) s K to) →
      Does image stack_end 0 (in_turn w t go) w s K to
  does_turn w s K to go zero e given d = does_cut w s K to e given
  does_turn w s K to go (suc m) e given d =
      record { by = λ next h. lower image _ _ _ _ s (omega (arith, e)) ((d m refl).by next (λ a x u le. h a x u (omega (arith, le, e)))) }

  -- a further part of the same result, from there on
  pub does_more : {A : Type 0} {d : ℕ} {r : Result A} {w : TinyWorld} {s : State} {K L : A → Type 0} {to : (a : A) → K a → TinyWorld → State}
      {on : (a : A) → L a → TinyWorld → State} → Does image stack_end d r w s K to →
      ((a : A) (x : K a) (u : TinyWorld) → u.turns ≤ w.turns → Does image stack_end 0 (Gives a u) u (to a x u) L on) →
      Does image stack_end d r w s L on
  does_more {A} {d} {r} {w} {s} {K} {L} {to} {on} does e =
      record {
        by = λ go h. does.by go (λ a x u le. lower image _ _ u.turns _ _ (omega arith) ((e a x u le).by go (λ b y v le'. h b y v (omega (arith, le, le')))));
      }
