-- What a call of the rewind is at each stand that it shows.
use Rattle.cli_rewind.proofs.Common.{◌≡◌, ◌≢◌, ◌≤◌, ◌⊎◌, inl, inr, ◌+◌, ◌-◌, ◌++◌, ℕ, zero, suc, List, [], ◌∷◌, Option, Some, None, IsSome, refl, sym, ap}
use Rattle.cli_rewind.proofs.Common.{subst, ◌∙◌, arith, End, Meaning, UsesConsole, MicroRun, turn, word_at, BoardView, IsCutByFault, IsTurned, NoFault}
use Rattle.cli_rewind.proofs.Common.{ShowsRun, ControlStore, Snapshot, GoesBack, HistoryView, appended, Keeps, RewindView, state_of, front_lost, is_untaken}
use Rattle.cli_rewind.proofs.Common.{one_untaken, untaken_of, IsFrontOf, GoesForward, IsCutForward, Stand, StandsAt, history_at, kept, run_at, shown_run}
use Rattle.cli_rewind.proofs.Common.{state_at, states_from, IsMoved}
use Rattle.console_port.specs.declared.fault.BusFault.TheVariants as faults
use Rattle.mic_clock.specs.declared.end.End.TheVariants as ends
use Rattle.cli_rewind.proofs.Turning.{earlier, stays, turned}
use Rattle.cli_rewind.proofs.Giving.{cut_whole}
use Rattle.cli_rewind.proofs.Snapshots.{latest, same_states, states_kept, states_more, states_none, states_split}

-- a board that came to no fault
pub no_fault : (old new : Option End) → (old ≡ None → new ≢ Some ends.ReadFault) → new ≢ Some ends.WriteFault → NoFault old new
no_fault None (Some ends.ReadFault) read write = absurd (read refl refl)
no_fault None (Some ends.WriteFault) read write = absurd (write refl)
no_fault _ _ read write = tt

-- a rewind stands where its states and its run say, over the words and the depth that it has
pub stands_with : {M State : Type 0} (state : M → State) (m : Meaning State) (left held : Option (List ℕ)) (v : RewindView M) (s : Stand State)
    (words : List ℕ) (depth : ℕ) →
    v.board.store.words ≡ words → v.history.depth ≡ depth → ShowsRun state left held v.board (shown_run m words s v.board.end) →
    (run_at m words s.start s.clocked).end ≡ None →
    v.history ≡ history_at m words depth s → s.cursor ≤ s.clocked → s.clocked - depth ≤ s.cursor → StandsAt state m left held v s
stands_with state m left held v s words depth words_is depth_is run running history cursor oldest =
    record {
      run = subst (λ (w : List ℕ). ShowsRun state left held v.board (shown_run m w s v.board.end)) (sym words_is) run;
      running = subst (λ (w : List ℕ). (run_at m w s.start s.clocked).end ≡ None) (sym words_is) running;
      history = history ∙ (λ i. history_at m (sym words_is i) (sym depth_is i) s);
      cursor = cursor;
      oldest = subst (λ (d : ℕ). s.clocked - d ≤ s.cursor) (sym depth_is) oldest;
    }

module _ {M State : Type 0} (state : M → State) (m : Meaning State) (left left' : List ℕ) (held held' : Option (List ℕ)) (v v' : RewindView M) where
  abbrev words : List ℕ
  words = v.board.store.words

  abbrev Moved : Type 0
  Moved = GoesBack v'.history v.history × (v'.board ≡ v.board)

  abbrev Turned : Type 0
  Turned = IsTurned state m (Some left) held v.board (Some left') held' v'.board None

  -- a run that is shown is led on
  leads_on : (r : MicroRun State) → ShowsRun state (Some left) held v.board r → NoFault v.board.end v'.board.end → Turned →
      ShowsRun state (Some left') held' v'.board (turn m words r)
  leads_on r here well is =
      let rest = untaken_of left' v'.board.bus.console.ended in
      let far = is well rest (is_untaken left' v'.board.bus.console.ended) in
      (far.2 r here (one_untaken left v.board.bus.console.ended r.world.untaken far.0 here.world.untaken far.1)).0

  abbrev Ended : Type 0
  Ended = (e : End) → v.board.end ≡ Some e → v'.board ≡ v.board

  live_by : (o : Option End) → v.board.end ≡ o → v.board.end ≢ Some ends.WriteFault → v'.board.end ≡ Some ends.WriteFault → Ended → v.board.end ≡ None
  live_by None is well fault ended = is
  live_by (Some e) is well fault ended = absurd (well (ap (λ (b : BoardView M). b.end) (sym (ended e is)) ∙ fault))

  -- a board that came to a fault of `out` had not ended
  pub live : v.board.end ≢ Some ends.WriteFault → v'.board.end ≡ Some ends.WriteFault → Ended → v.board.end ≡ None
  live = live_by v.board.end refl

  -- ---- at a stand

  module _ (s : Stand State) (here : StandsAt state m (Some left) held v s) where
    abbrev next : MicroRun State
    next = run_at m words s.start (suc s.clocked)

    next_by : (o : Option End) → v.board.end ≡ o → ShowsRun state (Some left) held v.board (shown_run m words s o) →
        ShowsRun state (Some left') held' v'.board (turn m words (shown_run m words s o)) → ShowsRun state (Some left') held' v'.board next
    next_by None is old new = subst (λ (r : MicroRun State). ShowsRun state (Some left') held' v'.board r) (sym (turned m words s.clocked s.start)) new
    next_by (Some e) is old new = subst (λ (r : MicroRun State). ShowsRun state (Some left') held' v'.board r) (stays m words next e (old.its_end ∙ is)) new

    -- a board that was clocked shows the run after one more turn than its cycles
    shows_next : NoFault v.board.end v'.board.end → Turned → ShowsRun state (Some left') held' v'.board next
    shows_next well turned_so = next_by v.board.end refl here.run (leads_on (shown_run m words s v.board.end) here.run well turned_so)

    -- the cursor is at the board where no state is kept after it
    at_board : v.history.after ≡ [] → s.cursor ≡ s.clocked
    at_board none =
        let after : states_from m words s.start (suc s.cursor) (s.clocked - s.cursor) ≡ [] = ap (λ (h : HistoryView). h.after) (sym here.history) ∙ none in
        let zero_is = states_none m words s.start (suc s.cursor) (s.clocked - s.cursor) after in
        let le = here.cursor in omega (arith, zero_is, le)

    -- no cycle forward
    pub goes_nowhere : GoesForward m words 0 None s s
    goes_nowhere =
        let le = here.cursor in
        record {
          start = refl;
          made = 0;
          cursor = omega arith;
          clocked = omega (arith, le);
          running = earlier m words s.clocked s.cursor s.start le here.running;
          stops = refl;
        }

    -- the stand after a clocked cycle
    abbrev clocked_on : Stand State
    clocked_on = record { start = s.start; clocked = suc s.clocked; cursor = suc s.clocked }

    -- the stand after a step over a kept cycle
    abbrev moved_on : Stand State
    moved_on = record { start = s.start; clocked = s.clocked; cursor = suc s.cursor }

    -- a cycle that was clocked
    clocked_step : v'.board.end ≡ None → v.history.after ≡ [] → NoFault v.board.end v'.board.end → Turned → Keeps state m v v' →
        v'.board.store ≡ v.board.store →
        GoesForward m words 1 None s clocked_on × StandsAt state m (Some left') held' v' clocked_on
    clocked_step none after well turned_so keeps store =
        let now = shows_next well turned_so in
        let at = at_board after in
        let le = here.cursor in
        let old = here.oldest in
        let d = v.history.depth in
        let first = s.clocked - d in
        let is : v'.history ≡ appended v.history (state_of state m v'.board) = keeps.clocked none in
        let snap : state_of state m v'.board ≡ state_at m words s.start (suc s.clocked) =
        λ i. record { moment = record { registers = m.registers (sym now.its_state i); counts = sym now.counts i }; words = sym now.world.words i } in
        let before_is =
        ap (λ (j : ℕ). latest d (states_from m words s.start first (kept d s) ++ state_at m words s.start j ∷ [])) at
        ∙ states_kept m words s.start d first (kept d s) s.clocked refl (omega (arith, at, old, le)) in
        let zero_is : zero ≡ suc s.clocked - suc s.clocked = omega arith in
        let whole : v'.history ≡ history_at m words d clocked_on =
        is ∙ (λ i. appended (here.history i) (snap i))
        ∙ (λ i. record {
          before = before_is i;
          here = state_at m words s.start (suc s.clocked);
          after = states_from m words s.start (suc (suc s.clocked)) (zero_is i);
          depth = d;
        }) in
        let running : next.end ≡ None = now.its_end ∙ none in (
          record {
            start = refl;
            made = 1;
            cursor = omega (arith, at);
            clocked = omega arith;
            running = running;
            stops = refl;
          },
          stands_with state m (Some left') held' v' clocked_on words d (ap (λ (x : ControlStore). x.words) store) (ap (λ (h : HistoryView). h.depth) is)
              (subst (λ (o : Option End). ShowsRun state (Some left') held' v'.board (shown_run m words clocked_on o)) (sym none) now) running whole
              (omega arith) (omega arith),
        )

    -- an end, which keeps the stand
    ended_step : (e : End) → v'.board.end ≡ Some e → v.history.after ≡ [] → NoFault v.board.end v'.board.end → Turned → Keeps state m v v' →
        v'.board.store ≡ v.board.store →
        GoesForward m words 1 (Some e) s s × StandsAt state m (Some left') held' v' s
    ended_step e ended after well turned_so keeps store =
        let now = shows_next well turned_so in
        let at = at_board after in
        let le = here.cursor in
        let is : v'.history ≡ v.history = keeps.ended (subst IsSome (sym ended) refl) in (
          record {
            start = refl;
            made = 0;
            cursor = omega arith;
            clocked = omega (arith, le);
            running = earlier m words s.clocked s.cursor s.start le here.running;
            stops = (omega arith, ap (λ (j : ℕ). (run_at m words s.start (suc j)).end) at ∙ now.its_end ∙ ended);
          },
          stands_with state m (Some left') held' v' s words v.history.depth (ap (λ (x : ControlStore). x.words) store) (ap (λ (h : HistoryView). h.depth) is)
              (subst (λ (o : Option End). ShowsRun state (Some left') held' v'.board (shown_run m words s o)) (sym ended) now) here.running (is
              ∙ here.history) le here.oldest,
        )

    -- a step over a kept cycle
    moved_step : Moved → GoesForward m words 1 None s moved_on × StandsAt state m (Some left) held v' moved_on
    moved_step moves =
        let le = here.cursor in
        let old = here.oldest in
        let d = v.history.depth in
        let first = s.clocked - d in
        let split = states_split m words s.start (suc s.cursor) (s.clocked - s.cursor) v'.history.here v'.history.after (ap (λ (h : HistoryView). h.after)
        (sym here.history) ∙ moves.0.after) in
        let some : s.clocked - s.cursor ≡ suc split.0 = split.1 in
        let at : s.cursor ≡ first + kept d s = omega (arith, old) in
        let before_is : v'.history.before ≡ states_from m words s.start first (suc s.cursor - first) =
        moves.0.before ∙ (λ i. (here.history i).before ++ (here.history i).here ∷ [])
        ∙ ap (λ (j : ℕ). states_from m words s.start first (kept d s) ++ state_at m words s.start j ∷ []) at
        ∙ states_more m words s.start first (kept d s) ∙ same_states m words s.start first first (suc (kept d s)) (suc s.cursor - first) refl (omega
        (arith, old)) in
        let after_is = split.3 ∙ same_states m words s.start (suc (suc s.cursor)) (suc (suc s.cursor)) split.0 (s.clocked - suc s.cursor) refl (omega
        (arith, some)) in
        let depth_is : v'.history.depth ≡ d = sym moves.0.depth in
        let whole : v'.history ≡ history_at m words d moved_on = λ i. record {
          before = before_is i;
          here = split.2 i;
          after = after_is i;
          depth =
              depth_is i;
        } in (
          record {
            start = refl;
            made = 1;
            cursor = omega arith;
            clocked = omega (arith, some, le);
            running = earlier m words s.clocked (suc s.cursor) s.start (omega (arith, some)) here.running;
            stops = refl;
          },
          stands_with state m (Some left) held v' moved_on words d (ap (λ (b : BoardView M). b.store.words) moves.1) depth_is
              (subst (λ (b : BoardView M). ShowsRun state (Some left) held b (shown_run m words moved_on b.end))
              (sym moves.1) here.run) here.running whole (omega (arith, some)) (omega (arith, old)),
        )

    clocked_by : (o : Option End) → v'.board.end ≡ o → v.history.after ≡ [] → NoFault v.board.end v'.board.end → Turned → Keeps state m v v' →
        v'.board.store ≡ v.board.store →
        (s' : Stand State) × GoesForward m words 1 o s s' × StandsAt state m (Some left') held' v' s'
    clocked_by None is after well turned_so keeps store = let at = clocked_step is after well turned_so keeps store in (clocked_on, at.0, at.1)
    clocked_by (Some e) is after well turned_so keeps store = let at = ended_step e is after well turned_so keeps store in (s, at.0, at.1)

  list_case : (xs : List Snapshot) → (xs ≡ []) ⊎ (xs ≢ [])
  list_case [] = inl refl
  list_case (x ∷ xs) = inr (λ e. cc)

  -- a step forward, to an end or to none
  pub step_leads : (end : Option End) → (v.history.after ≢ [] → Moved) → (v.history.after ≢ [] →
      (end ≡ None) × (left' ≡ left) × (held' ≡ held)) →
      (v.history.after ≡ [] → Turned) → (v.history.after ≡ [] → Keeps state m v v') → (v.history.after ≡ [] → end ≡ v'.board.end) →
      (v.history.after ≡ [] → v.board.end ≡ None → v'.board.end ≢ Some ends.ReadFault) → end ≢ Some ends.WriteFault → v'.board.store ≡ v.board.store →
      (s : Stand State) → StandsAt state m (Some left) held v s → (s' : Stand State) × GoesForward m words 1 end s s' × StandsAt state m
      (Some left') held' v' s'
  step_leads end moves still turned_so keeps end_is read write store s here =
      elim (list_case v.history.after) [
        | inl none ↦
            (let well : NoFault v.board.end v'.board.end = no_fault v.board.end v'.board.end (read none) (λ e. write (end_is none ∙ e)) in
            let at = clocked_by s here v'.board.end refl none well (turned_so none) (keeps none) store in
            (at.0, subst (λ (o : Option End). GoesForward m words 1 o s at.0) (sym (end_is none)) at.1, at.2))
        | inr some ↦
            (let at = moved_step s here (moves some) in
            let same = still some in (
              moved_on s here,
              subst (λ (o : Option End). GoesForward m words 1 o s (moved_on s here)) (sym same.0) at.0,
              subst (λ (l : List ℕ). StandsAt state m (Some l) held' v' (moved_on s here)) (sym same.1)
                  (subst (λ (h : Option (List ℕ)). StandsAt state m (Some left) h v' (moved_on s here)) (sym same.2) at.1),
            ))
      ]

  -- whether the cursor is at the board or not
  pub either_way : {A : Type 0} → (v.history.after ≡ [] → A) → (v.history.after ≢ [] → A) → A
  either_way at before =
      elim (list_case v.history.after) [
        | inl none ↦ (at none)
        | inr some ↦ (before some)
      ]

  kept_depth : (o : Option End) → v'.board.end ≡ o → Keeps state m v v' → v'.history.depth ≡ v.history.depth
  kept_depth None is keeps = ap (λ (h : HistoryView). h.depth) (keeps.clocked is)
  kept_depth (Some e) is keeps = ap (λ (h : HistoryView). h.depth) (keeps.ended (subst IsSome (sym is) refl))

  -- a step forward moves
  pub step_moved : (end : Option End) → (v.history.after ≢ [] → Moved) → (v.history.after ≡ [] → Keeps state m v v') →
      (v.history.after ≡ [] → end ≡ v'.board.end) →
      v.board.end ≢ Some ends.WriteFault → end ≢ Some ends.WriteFault → v'.board.store ≡ v.board.store →
      v'.board.counts.cycles ≤ v.board.counts.cycles + 1 → IsMoved 1 v v'
  step_moved end moves keeps end_is well write store growth =
      record {
        store = store;
        depth = either_way (λ none. kept_depth v'.board.end refl (keeps none)) (λ some. sym (moves some).0.depth);
        cycles = growth;
        well = either_way (λ none e. write (end_is none ∙ e)) (λ some e. well (sym (ap (λ (b : BoardView M). b.end) (moves some).1) ∙ e));
      }

  -- a fault of `out` comes where the cursor is at the board, which had not ended
  pub step_faulted : (end : Option End) → end ≡ Some ends.WriteFault → (v.history.after ≢ [] → end ≡ None) → Ended →
      (v.history.after ≡ [] → end ≡ v'.board.end) →
      v.board.end ≢ Some ends.WriteFault → (v.history.after ≡ []) × (v.board.end ≡ None) × (v'.board.end ≡ Some ends.WriteFault)
  step_faulted end fault none_before ended end_is well =
      either_way
      (λ none. let is : v'.board.end ≡ Some ends.WriteFault = sym (end_is none) ∙ fault in (none, live well is ended, is))
      (λ some. let no : Some ends.WriteFault ≡ None = sym fault ∙ none_before some in absurd (cc))

  -- a fault of `out` in a cycle
  pub step_cuts : v.board.end ≡ None → IsCutByFault state m (Some left) held v.board (Some left') held' v'.board → v'.board.end ≡ Some ends.WriteFault →
      (s : Stand State) → StandsAt state m (Some left) held v s → IsCutForward m words 1 s held'
  step_cuts none cut fault s here =
      let shown = subst (λ (o : Option End). ShowsRun state (Some left) held v.board (shown_run m words s o)) none here.run in
      let at = cut faults.WriteFault none tt fault in
      let lost = at.world.lost refl in
      let front : IsFrontOf held' (run_at m words s.start s.clocked).world.given =
      front_lost held held' v.board.bus.console.kept v'.board.bus.console.kept (run_at m words s.start s.clocked).world.given lost shown.world.given in
      record {
        made = 0;
        mid = s;
        gone = goes_nowhere s here;
        few = omega arith;
        uses =
            subst (λ (x : State). UsesConsole m (word_at m words x) x (run_at m words s.start s.clocked).world) (sym shown.its_state)
            (at.uses refl (run_at m words s.start s.clocked).world shown.world);
        out = front;
        whole = cut_whole m words 0 1 s s held' (goes_nowhere s here) (omega arith) front;
      }
