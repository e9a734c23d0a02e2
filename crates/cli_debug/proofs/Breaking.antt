-- What a failing sink leaves of a line, as the definition has it.
use Rattle.cli_debug.proofs.Common.{◌≡◌, inl, inr, ◌∙◌, ℕ, zero, suc, ◌≤◌, Bool, true, false, List, [], ◌++◌, length, take, min, if◌then◌else◌, Option, Some}
use Rattle.cli_debug.proofs.Common.{None, IsSome, Result, Ok, Err, refl, sym, ap, subst, arith, OnErr, nat_le, option_map, cases_lt, take_min, take-append-le}
use Rattle.cli_debug.proofs.Common.{no_rise, World, End, Meaning, MicroRun, bounded, bounded_by, turn, Plan, Until, GotInPart, OutsideView}
use Rattle.mic_debugger.specs.declared.plan.Plan.TheVariants as plans
use Rattle.mic_debugger.specs.Prelude.{Book, IsDone, IsGoing, IsTold, after, printed, turn_lines, IsLineBroken, HasReadCause, Carries, IsPart, IsWhole, Rules, Stand, plan_at, rules_of, stand_in, KeepFronts, SessionView}
use Rattle.cli_session.specs.Prelude.{IsCutShort, IsFrontOf, place, OnlyGives, IsFront, front_same, front_then, held_front, turn_gives}
use Rattle.cli_debug.specs.Prelude.{IsBrokenOff, debugging, debugging_view}
use Rattle.cli_debug.proofs.Standing.{leads_on, same_stand, streams_at}

-- ---- fronts

got_front : (said said' : Option (List ℕ)) (a b : List ℕ) → GotInPart said a said' → IsFront a b → GotInPart said b said'
got_front said said' a b p q =
    let k : ℕ = min p.0 (length a) in
    let inside : min p.0 (length a) ≤ length a = omega arith in (
      k,
      p.1 ∙ ap (λ (x : List ℕ). option_map (λ (h : List ℕ). h ++ x) said) (sym (ap (take k) q.1 ∙ take-append-le k a q.0 inside ∙ take_min p.0 a)),
    )

-- ---- a machine that only gives

module _ {State : Type 0} (m : Meaning State) (book : Book) (words breaks : List ℕ) (bound : ℕ) (u : Until) where
  after-suc : (n : ℕ) (r : MicroRun State) → after m book words breaks bound u (suc n) r ≡ turn m words (bounded m (Some bound) (after m book words breaks bound u n r))
  after-suc zero r = refl
  after-suc (suc n) r = after-suc n (turn m words (bounded m (Some bound) r))

  stopped_world : (b stop : Bool) (r q : MicroRun State) → q.world ≡ r.world → (if b then (if stop then q else r) else r).world ≡ r.world
  stopped_world true true r q e = e
  stopped_world true false r q e = refl
  stopped_world false stop r q e = refl

  bounded_world : (e : Option End) (r : MicroRun State) → (bounded_by m e bound r).world ≡ r.world
  bounded_world (Some e) r = refl
  bounded_world None r = stopped_world (m.is_boundary r.state) (nat_le bound r.counts.cycles) r _ refl

  module _ (only : OnlyGives m) where
    one_gives : (r : MicroRun State) → IsFront r.world.given (turn m words (bounded m (Some bound) r)).world.given
    one_gives r =
        let x = bounded m (Some bound) r in
        let given = turn_gives m words only x.end x in
        (given.0, given.1 ∙ ap (λ (w : World). w.given ++ given.0) (bounded_world r.end r))

    more_given : (k n : ℕ) (r : MicroRun State) → k ≤ n → IsFront (after m book words breaks bound u k r).world.given (after m book words breaks bound u n r).world.given
    more_given k zero r le = let e : zero ≡ k = omega arith in subst (λ (j : ℕ). IsFront (after m book words breaks bound u j r).world.given r.world.given) e (front_same r.world.given)
    more_given k (suc n) r le =
        elim (cases_lt k (suc n)) [
          | inl below ↦
              (let before = after m book words breaks bound u n r in
              front_then (after m book words breaks bound u k r).world.given before.world.given (after m book words breaks bound u (suc n) r).world.given (more_given k n r (omega arith))
              (subst (λ (x : MicroRun State). IsFront before.world.given x.world.given) (sym (after-suc n r)) (one_gives before)))
          | inr above ↦
              (let e : suc n ≡ k = omega arith in
              subst (λ (j : ℕ). IsFront (after m book words breaks bound u j r).world.given (after m book words breaks bound u (suc n) r).world.given) e
              (front_same (after m book words breaks bound u (suc n) r).world.given))
        ]

  more_printed : (k n : ℕ) (r : MicroRun State) → k ≤ n → IsFront (printed m book words breaks bound u k r) (printed m book words breaks bound u n r)
  more_printed k zero r le = let e : zero ≡ k = omega arith in subst (λ (j : ℕ). IsFront (printed m book words breaks bound u j r) []) e (front_same [])
  more_printed k (suc n) r le =
      elim (cases_lt k (suc n)) [
        | inl below ↦
            (front_then (printed m book words breaks bound u k r) (printed m book words breaks bound u n r) (printed m book words breaks bound u (suc n) r) (more_printed k n r (omega arith))
            (turn_lines m book words breaks bound u (after m book words breaks bound u n r) (after m book words breaks bound u (suc n) r), refl))
        | inr above ↦
            (let e : suc n ≡ k = omega arith in
            subst (λ (j : ℕ). IsFront (printed m book words breaks bound u j r) (printed m book words breaks bound u (suc n) r)) e (front_same (printed m book words breaks bound u (suc n) r)))
      ]

  -- no moment of a command comes after its end
  none_after : (times k n : ℕ) (r : MicroRun State) → IsGoing m book words breaks bound u times k r → IsDone m book words breaks bound u times n r → k ≤ n
  none_after times k n r going done =
      elim (cases_lt n k) [
        | inl below ↦
            (elim done.over [
              | inl ended ↦ absurd (no_end (after m book words breaks bound u n r).end ended (going.running n below))
              | inr all ↦ (let lt = going.waiting n below in absurd (omega (arith, lt, all)))
            ])
        | inr le ↦ le
      ]
    where
      no_end : (e : Option End) → IsSome e → e ≡ None → ⊥
      no_end None some is = absurd (cc)
      no_end (Some e) some is = absurd (cc)

-- ---- a line

module _ {State : Type 0} (m : Meaning State) (rules : Rules) (s : Stand State) where
  -- a part of a plan, whatever else is known of its turns
  part_of : (P : Stand State → Until → ℕ → Type 0) (plan : Plan) (text : List ℕ) (run : MicroRun State) → Carries m rules (λ x u times n. IsPart m rules x u times n × P x u n) plan s text run →
      Carries m rules (IsPart m rules) plan s text run
  part_of P (plans.Clock u times) text run c = (c.0, c.1.0, c.2, c.3)
  part_of P (plans.Show shown) text run c = c

  -- what a plan has given and printed at a moment is a front of what it gives and prints whole

  printed_first : (plan : Plan) (text whole : List ℕ) (run last : MicroRun State) → Carries m rules (IsPart m rules) plan s text run → Carries m rules (IsWhole m rules) plan s whole last → IsFront text whole
  printed_first (plans.Clock u times) text whole run last b c =
      subst (λ (x : List ℕ). IsFront x whole) (sym b.3) (subst (λ (x : List ℕ). IsFront (printed m rules.book rules.words s.breaks rules.bound u b.0 s.run) x) (sym c.3)
      (more_printed m rules.book rules.words s.breaks rules.bound u b.0 c.0 s.run (none_after m rules.book rules.words s.breaks rules.bound u times b.0 c.0 s.run b.1 c.1)))
  printed_first (plans.Show shown) text whole run last b c = subst (IsFront text) (b.1 ∙ sym c.1) (front_same text)

  given_first : OnlyGives m → (plan : Plan) (text whole : List ℕ) (run last : MicroRun State) → Carries m rules (IsPart m rules) plan s text run → Carries m rules (IsWhole m rules) plan s whole last →
      IsFront run.world.given last.world.given
  given_first only (plans.Clock u times) text whole run last b c =
      subst (λ (x : MicroRun State). IsFront x.world.given last.world.given) (sym b.2) (subst (λ (x : MicroRun State). IsFront (after m rules.book rules.words s.breaks rules.bound u b.0 s.run).world.given x.world.given) (sym c.2)
      (more_given m rules.book rules.words s.breaks rules.bound u only b.0 c.0 s.run (none_after m rules.book rules.words s.breaks rules.bound u times b.0 c.0 s.run b.1 c.1)))
  given_first only (plans.Show shown) text whole run last b c =
      subst (λ (x : MicroRun State). IsFront run.world.given x.world.given) (b.0 ∙ sym c.0) (front_same run.world.given)

  broken_off : (line : List ℕ) (held said said' : Option (List ℕ)) (text : List ℕ) (run : MicroRun State) → Carries m rules (IsPart m rules) (plan_at m rules s line) s text run →
      IsFrontOf held run.world.given → GotInPart said text said' → IsBrokenOff m rules line s held said said'
  broken_off line held said said' text run begun out err =
      record {
        run = run;
        text = text;
        begun = begun;
        out = out;
        err = err;
        whole_out = λ only whole s' does. held_front held run.world.given s'.run.world.given out (given_first only (plan_at m rules s line) text whole run s'.run begun does.carries);
        whole_err = λ whole s' does. got_front said said' text whole err (printed_first (plan_at m rules s line) text whole run s'.run begun does.carries);
      }

-- ---- what a call of the library leaves

-- a line that a failing sink broke off is cut short
pub cut_by : {M State T E : Type 0} (state : M → State) (m : Meaning State) (left left' : List ℕ) (o o' : OutsideView) (v v' : SessionView M) (line : List ℕ) (r : Result T E) →
    OnErr r (IsLineBroken state m line v v' (streams_at left o) (streams_at left' o')) → (v.board.end ≡ None → HasReadCause 0 0 v'.board.end) →
    KeepFronts o.out.held o'.out.held o.err.held o'.err.held → o'.files ≡ o.files → OnErr r (IsCutShort (debugging state m) line (place (debugging_view v left) o) o')
cut_by state m left left' o o' v v' line (Ok reply) broken input keeps files = tt
cut_by state m left left' o o' v v' line (Err e) broken input keeps files =
    record {
      breaks = λ rules goes_by s here.
          let own = rules_of v rules.book in
          let x = stand_in v s.run in
          let at = (leads_on state left left' o.out.held v v'.board s here _ (broken.broken.breaks (λ none read. no_rise ((input none).rose read)) rules.book goes_by.0)).1 in
          subst (λ (r : Rules). IsBrokenOff m r line s o'.out.held o.err.held o'.err.held) (sym goes_by.1)
          (subst (λ (y : Stand _). IsBrokenOff m own line y o'.out.held o.err.held o'.err.held) (same_stand state left left' o.out.held v v'.board s here)
          (broken_off m own x line o'.out.held o.err.held o'.err.held at.text at.run
          (part_of m own x (λ y u n. IsTold m own.book own.words y.breaks own.bound u o.err.held o'.err.held n y.run) (plan_at m own x line) at.text at.run at.begun) at.out at.err));
      keeps_out = keeps.out;
      keeps_err = keeps.err;
      files = files;
      rose = broken.broken.failed;
    }
