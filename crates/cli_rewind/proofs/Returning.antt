-- Steps back.
use Rattle.cli_rewind.proofs.Common.{◌≡◌, ◌<◌, ◌≤◌, ◌+◌, ◌-◌, ℕ, suc, List, [], ◌∷◌, min, Option, refl, sym, ap, subst, ◌∙◌, arith, Meaning, BoardView}
use Rattle.cli_rewind.proofs.Common.{ShowsRun, HistoryView, GoesBack, RewindView, Stand, StandsAt, back, history_at, kept, shown_run, state_at, states_from}
use Rattle.cli_rewind.proofs.Snapshots.{same_states, states_last, states_none}
use Rattle.cli_rewind.proofs.Stepping.{stands_with}

-- no step back
pub back_none : {State : Type 0} (depth : ℕ) (s : Stand State) → back depth 0 s ≡ s
back_none depth s = let e : s.cursor - min 0 (kept depth s) ≡ s.cursor = omega arith in λ i. record { start = s.start; clocked = s.clocked; cursor = e i }

-- one more step back, where one more cycle is kept
pub back_more : {State : Type 0} (depth n : ℕ) (s : Stand State) → n < kept depth s → back depth 1 (back depth n s) ≡ back depth (n + 1) s
back_more depth n s some =
    let e : (back depth 1 (back depth n s)).cursor ≡ s.cursor - min (n + 1) (kept depth s) = omega (arith, some) in
    λ i. record { start = s.start; clocked = s.clocked; cursor = e i }

-- all that are kept
pub back_all : {State : Type 0} (depth n times : ℕ) (s : Stand State) → n ≡ kept depth s → n ≤ times → back depth n s ≡ back depth times s
back_all depth n times s is le =
    let e : (back depth n s).cursor ≡ (back depth times s).cursor = omega (arith, is, le) in
    λ i. record { start = s.start; clocked = s.clocked; cursor = e i }

module _ {M State : Type 0} (state : M → State) (m : Meaning State) (left held : Option (List ℕ)) (v v' : RewindView M) (s : Stand State)
    (here : StandsAt state m left held v s) where
  abbrev words : List ℕ
  words = v.board.store.words

  abbrev first : ℕ
  first = s.clocked - v.history.depth

  pub back_step : GoesBack v.history v'.history → v'.board ≡ v.board → (0 < kept v.history.depth s) × StandsAt state m left held v' (back v.history.depth 1 s)
  back_step went board =
      let le = here.cursor in
      let old = here.oldest in
      let d = v.history.depth in
      let last = states_last m words s.start first (kept d s) v'.history.here v'.history.before (ap (λ (h : HistoryView). h.before) (sym here.history)
      ∙ went.before) in
      let some : s.cursor - first ≡ suc last.0 = last.1 in
      let now = s.cursor - min 1 (kept d s) in
      let at : first + last.0 ≡ now = omega (arith, some, old) in
      let before_is : v'.history.before ≡ states_from m words s.start first (now - first) = last.3
      ∙ same_states m words s.start first first last.0 (now - first) refl (omega (arith, some, old)) in
      let here_is : v'.history.here ≡ state_at m words s.start now = last.2 ∙ ap (λ (j : ℕ). state_at m words s.start j) at in
      let after_is : v'.history.after ≡ states_from m words s.start (suc now) (s.clocked - now) =
      went.after ∙ (λ i. (here.history i).here ∷ (here.history i).after)
      ∙ same_states m words s.start s.cursor (suc now) (suc (s.clocked - s.cursor)) (s.clocked - now) (omega (arith, some, old)) (omega
      (arith, some, old, le)) in
      let whole : v'.history ≡ history_at m words d (back d 1 s) = λ i. record {
        before = before_is i;
        here = here_is i;
        after = after_is i;
        depth =
            went.depth i;
      } in (
        omega (arith, some),
        stands_with state m left held v' (back d 1 s) words d (ap (λ (b : BoardView M). b.store.words) board) went.depth
            (subst (λ (b : BoardView M). ShowsRun state left held b (shown_run m words (back d 1 s) b.end)) (sym board) here.run) here.running whole
            (omega (arith, le)) (omega (arith, some, old)),
      )

  pub none_kept : v.history.before ≡ [] → kept v.history.depth s ≡ 0
  none_kept none = states_none m words s.start first (kept v.history.depth s) (ap (λ (h : HistoryView). h.before) (sym here.history) ∙ none)

-- no cycle is kept before the last one that was gone back over
pub back_ended : {State : Type 0} (depth n : ℕ) (s : Stand State) → n ≤ kept depth s → kept depth (back depth n s) ≡ 0 → n ≡ kept depth s
back_ended depth n s le none = omega (arith, le, none)

pub back_goes : {State : Type 0} (depth n : ℕ) (s : Stand State) → n ≤ kept depth s → 0 < kept depth (back depth n s) → n < kept depth s
back_goes depth n s le some = omega (arith, le, some)
