-- The runs of a program are as it means, from the central lemma.
use Rattle.tiny_runs.proofs.Common.{◌≡◌, ◌≢◌, ◌≤◌, ◌<◌, ◌⊎◌, ◌↔◌, inl, inr, ℕ, ◌+◌, List, [], refl, sym, ap, ◌∙◌, subst, arith, le-leb, ImageView, output}
use Rattle.tiny_runs.proofs.Common.{IsPrefix, Advances, runs_of}
use Rattle.ijvm_meaning.specs.declared.run.RunEnd.TheVariants as ends
use Rattle.ijvm_meaning.specs.Prelude.{State, start_of, Timing, TimedImage, Point, Finish, first_point, stopped, after_test, finish_from, EndsBy, Passes, Start, More, IsSafe, NeverStuck, ComesTo, Here, On}
use Rattle.tiny_tree.specs.Prelude.{Program, IsNamed, Meaning, Ended, Cut, meaning}
use Rattle.tiny_code.specs.Prelude.{Places, Holds}
use Rattle.tiny_runs.proofs.Led.{whole_prefix, Led}
use Rattle.tiny_runs.proofs.Runs.{follows}
use Rattle.tiny_runs.proofs.Ends.{last, Tale, IsLimited, IsHalted, IsBounded, IsCut, tell, rises}

passes_short : (p : TimedImage) (advances : Advances p.timing) (bound bound' : ℕ) (from at : Point) → Passes p bound from at → at.cycles ≤ bound' →
    Passes p bound' from at
passes_short p advances bound bound' from at (Start at' is) le = Start at' is
passes_short p advances bound bound' from at (More b next t h lt e is) le =
    let above : b.cycles < next.cycles = subst (λ (x : Point). b.cycles < x.cycles) (sym is) (rises p advances b t e) in
    More b next t (passes_short p advances bound bound' from b h (omega (arith, above, le))) (omega (arith, above, le)) e is

-- what the console gives changes nothing of whether a run gets stuck
safe_from : (image : ImageView) (stack_end main_locals : ℕ) (input : List ℕ) → IsSafe image stack_end main_locals →
    NeverStuck image stack_end (start_of main_locals input)
safe_from image stack_end main_locals input safe to comes = safe to (by to comes)
  where
    by : (to : State) → ComesTo image stack_end (start_of main_locals input) to → ComesTo image stack_end (start_of main_locals []) to
    by to (Here to' same) = Here to' (record { running = same.running; callers = same.callers; at = same.at })
    by to (On t u to' h e same) = On t u to' (by t h) e same

abbrev untaken_of : Meaning → List ℕ
untaken_of (Ended given untaken) = untaken
untaken_of (Cut given) = []

module _ (program : Program) (p : Places) (image : ImageView) (stack_end main_locals : ℕ) (timing : Timing) (named : IsNamed program)
    (holds : Holds image p program) (safe : IsSafe image stack_end main_locals) (advances : Advances timing)
    (one : (p : TimedImage) (bound : ℕ) (from : Point) (f g : Finish) → EndsBy p bound from f → EndsBy p bound from g → f ≡ g)
    (passed : (p : TimedImage) (bound : ℕ) (from at : Point) (f : Finish) → Passes p bound from at → EndsBy p bound at f ↔ EndsBy p bound from f)
    (input : List ℕ) where
  abbrev runs : TimedImage
  runs = runs_of image stack_end timing

  abbrev first : Point
  first = first_point runs main_locals input

  abbrev means : ℕ → Meaning
  means n = meaning program input n

  led : (n : ℕ) → Led image stack_end (means n) n (start_of main_locals input)
  led n = (follows image stack_end p program named holds n main_locals input).led (safe_from image stack_end main_locals input safe)

  -- the bound that leads past the last boundary
  abbrev past : ℕ → ℕ
  past n = last runs (led n) first + 1

  abbrev TaleOf : ℕ → ℕ → Type 0
  TaleOf n bound = Tale runs bound first (means n) n (last runs (led n) first)

  tale : (n bound : ℕ) → TaleOf n bound
  tale n bound = tell runs advances bound (led n) first refl

  -- a run has one end
  same_end : (bound : ℕ) (f g : Finish) → EndsBy runs bound first f → EndsBy runs bound first g → f.end ≡ g.end
  same_end bound f g h k = ap (λ (x : Finish). x.end) (one runs bound first f g h k)

  -- a run that is stopped where it passes
  stopped_at : (bound : ℕ) (c : Point) → Passes runs bound first c → EndsBy runs c.cycles first (stopped c ends.Bound c.state)
  stopped_at bound c h =
      let short : Passes runs c.cycles first c = passes_short runs advances bound c.cycles first c h (omega arith) in
      (passed runs c.cycles first c (stopped c ends.Bound c.state) short).0
      (1, ap (after_test (finish_from runs c.cycles 0) runs c) (le-leb c.cycles c.cycles (omega arith)))

  pub never_errs : (bound : ℕ) (f : Finish) → EndsBy runs bound first f → f.end ≢ ends.Err
  never_errs bound f h err = by (tale bound bound)
    where
      by : TaleOf bound bound → ⊥
      by (IsLimited g k is) = let e : ends.Err ≡ ends.StackLimit = sym err ∙ same_end bound f g h k ∙ is in cc
      by (IsHalted g k is same) = let e : ends.Err ≡ ends.Halt = sym err ∙ same_end bound f g h k ∙ is in cc
      by (IsBounded g k is q le) = let e : ends.Err ≡ ends.Bound = sym err ∙ same_end bound f g h k ∙ is in cc
      by (IsCut c k is far lt) = omega (arith, far, lt)

  pub halts : (bound : ℕ) (f : Finish) → EndsBy runs bound first f → f.end ≡ ends.Halt → (n : ℕ) × (means n ≡ Ended f.left.given f.left.untaken)
  halts bound f h halt = by (tale bound bound)
    where
      by : TaleOf bound bound → (n : ℕ) × (means n ≡ Ended f.left.given f.left.untaken)
      by (IsLimited g k is) = let e : ends.Halt ≡ ends.StackLimit = sym halt ∙ same_end bound f g h k ∙ is in cc
      by (IsHalted g k is same) =
          (bound, subst (λ (x : Finish). means bound ≡ Ended x.left.given x.left.untaken) (one runs bound first g f k h) same)
      by (IsBounded g k is q le) = let e : ends.Halt ≡ ends.Bound = sym halt ∙ same_end bound f g h k ∙ is in cc
      by (IsCut c k is far lt) = absurd (omega (arith, far, lt))

  abbrev EndsSo : List ℕ → List ℕ → Type 0
  EndsSo given untaken = (bound : ℕ) × (f : Finish) × EndsBy runs bound first f
      × ((f.end ≡ ends.StackLimit) ⊎ ((f.end ≡ ends.Halt) × (f.left.given ≡ given) × (f.left.untaken ≡ untaken)))

  pub ended : (n : ℕ) (given untaken : List ℕ) → means n ≡ Ended given untaken → EndsSo given untaken
  ended n given untaken is = by (tale n (past n))
    where
      by : TaleOf n (past n) → EndsSo given untaken
      by (IsLimited g k l) = (past n, g, k, inl l)
      by (IsHalted g k l same) = (past n, g, k, inr (l, ap output (sym same ∙ is), ap untaken_of (sym same ∙ is)))
      by (IsBounded g k l q le) = absurd (omega (arith, le))
      by (IsCut c k l far lt) = let e : Cut c.state.given ≡ Ended given untaken = sym l ∙ is in cc

  pub prefix : (bound : ℕ) (at : Point) → Passes runs bound first at → (n : ℕ) × IsPrefix at.state.given (output (means n))
  prefix bound at h = (at.cycles, by (tale at.cycles at.cycles))
    where
      mine : EndsBy runs at.cycles first (stopped at ends.Bound at.state)
      mine = stopped_at bound at h

      by : TaleOf at.cycles at.cycles → IsPrefix at.state.given (output (means at.cycles))
      by (IsLimited g k is) =
          let e : ends.Bound ≡ ends.StackLimit = same_end at.cycles (stopped at ends.Bound at.state) g mine k ∙ is in cc
      by (IsHalted g k is same) = let e : ends.Bound ≡ ends.Halt = same_end at.cycles (stopped at ends.Bound at.state) g mine k ∙ is in cc
      by (IsBounded g k is q le) =
          subst (λ (x : Finish). IsPrefix x.left.given (output (means at.cycles)))
          (one runs at.cycles first g (stopped at ends.Bound at.state) k mine) q
      by (IsCut c k is far lt) = absurd (omega (arith, far, lt))

  abbrev ReachesAll : List ℕ → Type 0
  ReachesAll given = (bound : ℕ) × (f : Finish) × EndsBy runs bound first f × ((f.end ≡ ends.StackLimit) ⊎ IsPrefix given f.left.given)

  pub reaches : (n : ℕ) → ReachesAll (output (means n))
  reaches n = by (tale n (past n))
    where
      by : TaleOf n (past n) → ReachesAll (output (means n))
      by (IsLimited g k l) = (past n, g, k, inl l)
      by (IsHalted g k l same) =
          (past n, g, k, inr (subst (λ (x : Meaning). IsPrefix (output x) g.left.given) (sym same) (whole_prefix g.left.given)))
      by (IsBounded g k l q le) = absurd (omega (arith, le))
      by (IsCut c k l far lt) = (
        c.cycles,
        stopped c ends.Bound c.state,
        stopped_at (past n) c k,
        inr (subst (λ (x : Meaning). IsPrefix (output x) c.state.given) (sym l) (whole_prefix c.state.given)),
      )
