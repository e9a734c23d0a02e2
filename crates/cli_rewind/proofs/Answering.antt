-- The output of a line, and what is passed on after it.
use Rattle.cli_rewind.proofs.Common.{◌≡◌, ◌≢◌, inl, inr, ◌-◌, ◌^◌, ℕ, zero, suc, List, [], ◌∷◌, Option, Some, None, Result, Ok, Err, refl, sym, ap, subst, ◌∙◌}
use Rattle.cli_rewind.proofs.Common.{arith, OnErr, OnOk, append-nil, Holds, IsFlushed, KeepsFront, HasCause, Rose, IsLost, World, End, Meaning, MicroRun}
use Rattle.cli_rewind.proofs.Common.{BoardView, ShowsAs, ShowsRun, ControlStore, HistoryView, RewindView, state_of, FilesState, Got, SinkState, SourceState}
use Rattle.cli_rewind.proofs.Common.{outside_view, Command, CommandError, front_given, front_lost, in_part, Gone, IsCutShort, IsFrontOf, place, Verb}
use Rattle.cli_rewind.proofs.Common.{command_of, Cut, Does, Follows, IsBrokenOff, IsCutIn, Stand, StandsAt, Told, at_reset, run_at, shown_run, state_at}
use Rattle.cli_rewind.proofs.Common.{states_from, IsFront, IsMoved, IsPassedOn, IsTold, IsToldInPart, WasCut, scene, Lasts, RewindingRules, RewindingView}
use Rattle.cli_rewind.proofs.Common.{rewinding, rewinding_view, rules_of, Went}
use Rattle.mic_clock.specs.declared.end.End.TheVariants as ends
use Rattle.cli_rewind.proofs.Turning.{end_leaves}
use Rattle.cli_rewind.proofs.Stepping.{stands_with}

-- what holds of all files and consoles after a line holds of these
pub on_ok_at : {T E A B : Type 0} (P : A → B → Type 0) (r : Result T E) (a : A) (b : B) → OnOk r ((x : A) (y : B) → P x y) → OnOk r (P a b)
on_ok_at P (Ok v) a b all = all a b
on_ok_at P (Err e) a b all = tt

pub on_err_at : {T E A B : Type 0} (P : A → B → Type 0) (r : Result T E) (a : A) (b : B) → OnErr r ((x : A) (y : B) → P x y) → OnErr r (P a b)
on_err_at P (Ok v) a b all = tt
on_err_at P (Err e) a b all = all a b

module _ {M State : Type 0} (state : M → State) (m : Meaning State) where
  -- ---- what `out` holds

  given_by : (left held : Option (List ℕ)) (words : List ℕ) (board : BoardView M) (s : Stand State) (o : Option End) → board.end ≡ o →
      ShowsRun state left held board (shown_run m words s o) → (shown_run m words s o).world.given ≡ (run_at m words s.start s.clocked).world.given
  given_by left held words board s None is shows = refl
  given_by left held words board s (Some e) is shows = ap (λ (w : World). w.given) (end_leaves m words s.clocked s.start e (shows.its_end ∙ is))

  module _ (left held : Option (List ℕ)) (v : RewindView M) (s : Stand State) (here : StandsAt state m left held v s) where
    abbrev words : List ℕ
    words = v.board.store.words

    given_at : (shown_run m words s v.board.end).world.given ≡ (run_at m words s.start s.clocked).world.given
    given_at = given_by left held words v.board s v.board.end refl here.run

    -- what `out` holds is a front of what was given
    pub front_at : IsFrontOf held (run_at m words s.start s.clocked).world.given
    front_at = subst (λ (g : List ℕ). IsFrontOf held g) given_at (front_given held v.board.bus.console.kept
        (shown_run m words s v.board.end).world.given here.run.world.given)

    -- it is such a front where the last bytes were lost
    pub lost_at : (held' : Option (List ℕ)) (kept' : List ℕ) → IsLost held v.board.bus.console.kept held' kept' →
        IsFrontOf held' (run_at m words s.start s.clocked).world.given
    lost_at held' kept' lost =
        subst (λ (g : List ℕ). IsFrontOf held' g) given_at (front_lost held held' v.board.bus.console.kept kept'
        (shown_run m words s v.board.end).world.given lost here.run.world.given)

  -- a flush leaves the stand
  pub passes : (v v' : RewindView M) (held held' : Option (List ℕ)) → v'.history ≡ v.history → v'.board ≡ record v.board { bus = v'.board.bus } →
      ShowsAs state held v.board held' v'.board (λ r. r) → (left : Option (List ℕ)) (s : Stand State) → StandsAt state m left held v s →
      StandsAt state m left held' v' s
  passes v v' held held' history board shows left s here =
      let words = v.board.store.words in
      let end : v'.board.end ≡ v.board.end = ap (λ (b : BoardView M). b.end) board in
      stands_with state m left held' v' s words v.history.depth (ap (λ (b : BoardView M). b.store.words) board) (ap (λ (h : HistoryView). h.depth) history)
      (subst (λ (o : Option End). ShowsRun state left held' v'.board (shown_run m words s o)) (sym end) (shows left (shown_run m words s v.board.end) here.run))
      here.running (history ∙ here.history) here.cursor here.oldest

  pub unmoved : (v v' : RewindView M) → v'.history ≡ v.history → v'.board ≡ record v.board { bus = v'.board.bus } → v.board.end ≢ Some ends.WriteFault →
      IsMoved 0 v v'
  unmoved v v' history board well =
      let cycles : v'.board.counts.cycles ≡ v.board.counts.cycles = ap (λ (b : BoardView M). b.counts.cycles) board in
      record {
        store = ap (λ (b : BoardView M). b.store) board;
        depth = ap (λ (h : HistoryView). h.depth) history;
        cycles = omega (arith, cycles);
        well = λ e. well (sym (ap (λ (b : BoardView M). b.end) board) ∙ e);
      }

  -- a flush of `out` that was done leaves a front
  pub front_passed : (v v' : RewindView M) (out out' : SinkState) → IsPassedOn state m v v' out out' → IsFront state m v out out'
  front_passed v v' out out' passed =
      record {
        front = λ left s here.
            subst (λ (w : List ℕ). IsFrontOf out'.held (run_at m w s.start s.clocked).world.given) (ap (λ (b : BoardView M). b.store.words) passed.board)
            (front_at left out'.held v' s (passed.shows left s here));
        keeps = passed.keeps;
      }

  -- ---- a text that was put, and then passed on or not

  module _ (text : List ℕ) (v v' : RewindView M) (out out' err put err' : SinkState) (passed : IsPassedOn state m v v' out out')
      (got : Got err.held text put.held) (keeps : KeepsFront err.held put.held) (quiet : put.faults ≡ err.faults) (same : err'.held ≡ put.held) where
    pub told_whole : {T E : Type 0} (r : Result T E) → OnOk r (IsFlushed err'.held err'.passed) → HasCause put.faults err'.faults r →
        OnOk r (IsTold state m text v v' out out' err err')
    told_whole (Ok u) flushed cause = record { passed = passed; got = same ∙ got; flushed = flushed; faults = cause.quiet ∙ quiet }
    told_whole (Err e) flushed cause = tt

    pub told_part : {T E : Type 0} (r : Result T E) → HasCause put.faults err'.faults r → OnErr r (IsToldInPart state m text v out out' err err')
    told_part (Ok u) cause = tt
    told_part (Err e) cause =
        record {
          out_front = front_passed v v' out out' passed;
          got = in_part err.held err'.held text (same ∙ got);
          keeps = λ front h. subst (Holds front) (sym same) (keeps front h);
          rose = inr (subst (λ (n : ℕ). Rose n err'.faults) quiet cause.failed);
        }

  -- ---- a line

  module _ (line : List ℕ) (memory : ℕ) (read : Result (Option (Command Verb)) CommandError) (read_is : read ≡ command_of memory line)
      (files : FilesState) (console : SourceState)
      (v v' : RewindView M) (left left' : List ℕ) (out out' err err' : SinkState) where
    abbrev old : RewindingView M
    old = rewinding_view v memory left

    abbrev Followed : List ℕ → Stand State → Stand State → Type 0
    Followed text s s' = Follows m v.board.store.words v.history.depth read s text s'

    does : (rules : RewindingRules) → rules ≡ rules_of old → (text : List ℕ) (s s' : Stand State) → Followed text s s' →
        Does m rules.words rules.depth rules.memory line s text s'
    does rules is text s s' p =
        subst (λ (r : RewindingRules). Does m r.words r.depth r.memory line s text s') (sym is)
        (subst (λ (x : Result (Option (Command Verb)) CommandError). Follows m v.board.store.words v.history.depth x s text s') read_is p)

    -- `out` failed in the line
    pub cut_short : WasCut state m (scene v left out) (scene v' left' out') (IsCutIn m v.board.store.words read) →
        IsCutShort (rewinding state m) line (place old (outside_view files console out err)) (outside_view files console out' err)
    cut_short cut =
        record {
          breaks = λ rules is s here.
              subst (λ (r : RewindingRules). IsBrokenOff m r.words r.depth r.memory line s out'.held err.held err.held) (sym is)
              (Cut (subst (λ (x : Result (Option (Command Verb)) CommandError). IsCutIn m v.board.store.words x s out'.held) read_is (cut.cuts s here)) refl);
          keeps_out = cut.keeps;
          keeps_err = λ front h. h;
          files = refl;
          rose = inl cut.rose;
        }

  module _ (line : List ℕ) (memory : ℕ) (read : Result (Option (Command Verb)) CommandError) (read_is : read ≡ command_of memory line)
      (files : FilesState) (console : SourceState)
      (v mid last : RewindView M) (left left' : List ℕ) (out between out' err err' : SinkState) (text : List ℕ)
      (went : Went state m (2 ^ 32) (scene v left out) (scene mid left' between)
      (Followed line memory read read_is files console v mid left left' out between err err' text)) where
    done : (rules : RewindingRules) → rules ≡ rules_of (rewinding_view v memory left) → (s s' : Stand State) →
        Followed line memory read read_is files console v mid left left' out between err err' text s s' →
        Does m rules.words rules.depth rules.memory line s text s'
    done rules is s s' p = does line memory read read_is files console v mid left left' out between err err' rules is text s s' p

    -- the line was done whole
    pub gone : IsTold state m text mid last between out' err err' →
        Gone (rewinding state m) (line ∷ []) (place (rewinding_view v memory left) (outside_view files console out err)) (place
        (rewinding_view last memory left') (outside_view files console out' err'))
    gone told =
        let same = unmoved mid last told.passed.history told.passed.board went.moved.well in
        record {
          led = λ rules is. (
            text,
            told.got,
            λ s here.
                let x = went.leads s here in
                (x.0, (text, [], x.0, done rules is s x.0 x.1, (refl, refl), sym (append-nil text)), told.passed.shows (Some left') x.0 x.2),
          );
          rules = λ rules is.
              is ∙ (λ i. record {
                words = (sym (same.store ∙ went.moved.store) i).words;
                memory = memory;
                depth = sym (same.depth ∙ went.moved.depth) i;
              });
          quits = refl;
          waiting = told.passed.kept;
          flushed_out = λ h. told.passed.flushed (went.flushed h);
          flushed_err = λ h. told.flushed;
          files = refl;
          out = told.passed.faults ∙ went.faults;
          err = told.faults;
        }

    -- the line was done, and then a sink failed
    pub told_short : IsToldInPart state m text mid between out' err err' →
        IsCutShort (rewinding state m) line (place (rewinding_view v memory left) (outside_view files console out err)) (outside_view files console out' err')
    told_short told =
        record {
          breaks = λ rules is s here.
              let x = went.leads s here in
              subst (λ (r : RewindingRules). IsBrokenOff m r.words r.depth r.memory line s out'.held err.held err'.held) (sym is)
              (Told text x.0 (done (rules_of (rewinding_view v memory left)) refl s x.0 x.1)
              (subst (λ (w : List ℕ). IsFrontOf out'.held (run_at m w x.0.start x.0.clocked).world.given) (ap (λ (c : ControlStore). c.words) went.moved.store)
              (told.out_front.front (Some left') x.0 x.2))
              told.got);
          keeps_out = λ front h. told.out_front.keeps front (went.keeps front h);
          keeps_err = told.keeps;
          files = refl;
          rose = elim told.rose [
            | inl r ↦ (inl (subst (λ (n : ℕ). Rose n out'.faults) went.faults r))
            | inr r ↦ (inr r)
          ];
        }

    -- this many lines may follow
    pub lasts : IsTold state m text mid last between out' err err' → (n : ℕ) → Lasts (suc n) (rewinding_view v memory left) →
        Lasts n (rewinding_view last memory left')
    lasts told n before =
        let same = unmoved mid last told.passed.history told.passed.board went.moved.well in
        let a = same.cycles in
        let b = went.moved.cycles in
        let c = before.cycles in
        record { cycles = omega (arith, a, b, c); well = same.well }

  -- ---- before the first line

  pub starts : (v : RewindView M) (board : BoardView M) (depth : ℕ) (r : MicroRun State) (left held : Option (List ℕ)) → v.board ≡ board → board.end ≡ None →
      v.history ≡ record { before = []; here = state_of state m board; after = []; depth = depth } → ShowsRun state left held board r →
      StandsAt state m left held v (at_reset r)
  starts v board depth r left held board_is live history shows =
      let words = board.store.words in
      let snap : state_of state m board ≡ state_at m words r 0 =
      λ i. record { moment = record { registers = m.registers (sym shows.its_state i); counts = sym shows.counts i }; words = sym shows.world.words i } in
      let none : zero ≡ zero - (zero - depth) = omega arith in
      let none' : zero ≡ zero - zero = omega arith in
      stands_with state m left held v (at_reset r) words depth (ap (λ (b : BoardView M). b.store.words) board_is) (ap (λ (h : HistoryView). h.depth) history)
      (subst (λ (b : BoardView M). ShowsRun state left held b (shown_run m words (at_reset r) b.end)) (sym board_is)
      (subst (λ (o : Option End). ShowsRun state left held board (shown_run m words (at_reset r) o)) (sym live) shows))
      (shows.its_end ∙ live)
      (history ∙ (λ i. record {
        before = states_from m words r (zero - depth) (none i);
        here = snap i;
        after = states_from m words r 1 (none' i);
        depth = depth;
      }))
      (omega arith) (omega arith)
