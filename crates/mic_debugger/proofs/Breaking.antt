-- Where a failing sink breaks a line off.
use Rattle.mic_debugger.proofs.Common.{◌≡◌, ◌≢◌, ◌⊎◌, inl, inr, zero, suc, ℕ, ◌+◌, ◌<◌, List, ◌++◌, append_assoc, Option, Some, None, IsSome, refl, sym, ◌∙◌}
use Rattle.mic_debugger.proofs.Common.{ap, subst, arith, Result, Ok, Err, OnErr, OnOk, IfErr, Stands, BusFault, Counts, End, Meaning, MicroRun, bounded, turn}
use Rattle.mic_debugger.proofs.Common.{turns, word_at, BoardView, ShowsRun, ShowsAs, IsLedTo, IsTurned, TurnIsCut, NoFault, EndsUncounted, no_fault, turns-suc}
use Rattle.mic_debugger.proofs.Common.{turns-uncounted, HasCause, Puts, puts_first, puts_nothing, puts_passed, puts_then, Got, GotInPart, SinkState, Plan}
use Rattle.mic_debugger.proofs.Common.{Shown, Until, front_given, front_lost, in_part, IsFrontOf}
use Rattle.console_port.specs.declared.fault.BusFault.TheVariants as faults
use Rattle.mic_clock.specs.declared.end.End.TheVariants as ends
use Rattle.mic_debugger.specs.declared.plan.Plan.TheVariants as plans
use Rattle.mic_debugger.specs.Prelude.{Book, IsBookOf, IsTold, after, passed, printed, turn_lines, turn_text, IsBrokenAt, IsCarriedOut, IsPlanBroken, plan_in, IsBrokenOff, SinkFailed, Streams, shown_text, Carries, IsPart, IsWhole, Rules, Stand, plan_at, rules_of, stand_in, HoldsFront, IsBroken, IsUnderway, StandsAfter, text_between, SessionView}
use Rattle.mic_debugger.proofs.Carrying.{led_on, same_plan, same_shown}
use Rattle.mic_debugger.proofs.Underway.{going_more}

-- ---- ends

write_or_not : (e : Option End) → (e ≡ Some ends.WriteFault) ⊎ (e ≢ Some ends.WriteFault)
write_or_not (Some ends.WriteFault) = inl refl
write_or_not _ = inr (λ p. cc)

-- what holds where a failing `out` ended a board, and what holds where it did not
pub either_end : {P Q : Type 0} (end : Option End) → (end ≡ Some ends.WriteFault → P) → (end ≢ Some ends.WriteFault → Q) → P ⊎ Q
either_end end f g = elim (write_or_not end) [
  | inl ended ↦ inl (f ended)
  | inr well ↦ inr (g well)
]

-- ---- fronts

front_shown : (left held : Option (List ℕ)) {M State : Type 0} (state : M → State) (board : BoardView M) (r : MicroRun State) → ShowsRun state left held board r → IsFrontOf held r.world.given
front_shown left held state board r shows = front_given held board.bus.console.kept r.world.given shows.world.given

-- a board stands where it shows a run
pub stands_shown : (left held : Option (List ℕ)) {M State : Type 0} (state : M → State) (board : BoardView M) (r : MicroRun State) → ShowsRun state left held board r → StandsAfter state board r
stands_shown left held state board r shows =
    record { its_state = shows.its_state; memory = shows.world.words; counts = shows.counts; its_end = inl shows.its_end }

-- what was put whole is one part and then another
got_split : (said said' : Option (List ℕ)) (a b : List ℕ) → Got said (a ++ b) said' → (mid : Option (List ℕ)) × Got said a mid × Got mid b said'
got_split None said' a b got = (None, refl, got)
got_split (Some h) said' a b got = (Some (h ++ a), refl, got ∙ ap Some (sym (append_assoc h a b)))

-- a sink that stays got none of a text
got_none : (said said' : Option (List ℕ)) (text : List ℕ) → said' ≡ said → GotInPart said text said'
got_none said said' text same = (0, same ∙ puts_nothing said)

module _ {State : Type 0} (m : Meaning State) (book : Book) (words breaks : List ℕ) (bound : ℕ) (u : Until) (r : MicroRun State) (said said' : Option (List ℕ)) where
  -- `err` got the lines of k turns, and of those to n what it got
  abbrev Told : ℕ → ℕ → Type 0
  Told k n = (mid : Option (List ℕ)) × Got said (printed m book words breaks bound u k r) mid
      × GotInPart mid (turn_lines m book words breaks bound u (after m book words breaks bound u k r) (after m book words breaks bound u n r)) said'

  -- `err` got all the lines
  told_all : (k n : ℕ) → suc k ≡ n → Got said (printed m book words breaks bound u n r) said' → Told k n
  told_all k n e got = subst (λ (j : ℕ). Got said (printed m book words breaks bound u j r) said' → Told k j) e told_suc got
    where
      told_suc : Got said (printed m book words breaks bound u (suc k) r) said' → Told k (suc k)
      told_suc all =
          let lines : List ℕ = turn_lines m book words breaks bound u (after m book words breaks bound u k r) (after m book words breaks bound u (suc k) r) in
          let parts = got_split said said' (printed m book words breaks bound u k r) lines all in
          (parts.0, parts.1, in_part parts.0 said' lines parts.2)

  -- `err` got all the lines but those of the last turn
  told_last : (mid : Option (List ℕ)) (n k : ℕ) → suc k ≡ suc n → Got said (printed m book words breaks bound u n r) mid →
      GotInPart mid (turn_lines m book words breaks bound u (after m book words breaks bound u n r) (after m book words breaks bound u (suc n) r)) said' → Told k (suc n)
  told_last mid n k e got part = let same : n ≡ k = omega arith in subst (λ (j : ℕ). Told j (suc n)) same (mid, got, part)

module _ {M State : Type 0} (state : M → State) (m : Meaning State) (book : Book) (words breaks : List ℕ) (bound : ℕ) (u : Until) (times : ℕ) where
  module _ (left0 held0 : Option (List ℕ)) (board0 : BoardView M) (left held : Option (List ℕ)) (board : BoardView M) (left' held' : Option (List ℕ)) (board' : BoardView M)
      (text : List ℕ) (w : ℕ) (program : board.store.words ≡ words) (live : board.end ≡ None) (some : 0 < w)
      (led : IsLedTo state left0 held0 board0 left board (λ r rest. (n : ℕ) × IsUnderway state m book words breaks bound u times left held board rest text w n r))
      (said0 said said' : Option (List ℕ)) (prints : Got said0 text said) where
    -- after the turn, where a text is put
    broken_after : NoFault board.end board'.end → IsTurned state m left held board left' held' board' (Some bound) → GotInPart said (text_between state m book breaks u board board') said' →
        IsLedTo state left0 held0 board0 left' board' (λ r rest. (n : ℕ) × IsBroken state m book words breaks bound u times held' board' said0 said' n r)
    broken_after well turned front rest fits =
        let one = turned well rest fits in
        let far = led one.0 one.1 in (
          far.0,
          far.1,
          λ r s e.
              let at = far.2 r s e in
              let n = at.0 in
              let before = after m book words breaks bound u n r in
              let following = after m book words breaks bound u (suc n) r in
              let here = at.1.here in
              let next = one.2 before here at.1.untaken in
              let is : turn m board.store.words (bounded m (Some bound) before) ≡ following =
              ap (λ (ws : List ℕ). turn m ws (bounded m (Some bound) before)) program ∙ sym (turns-suc m words (Some bound) r n) in
              let shows : ShowsRun state left' held' board' following = subst (λ (x : MicroRun State). ShowsRun state left' held' board' x) is next.0 in
              let same_lines : turn_lines m book words breaks bound u before following ≡ text_between state m book breaks u board board' =
              λ i. turn_text book breaks u (m.registers (here.its_state i)).mpc (m.drives (word_at m (sym program i) (here.its_state i)) (here.its_state i)).stalled (shows.counts i) (m.registers (shows.its_state i)) (shows.world.words i) (shows.its_end i) in
              let so_far : passed m book words breaks bound u n r + w ≡ times = at.1.count in
              let all : text ++ text_between state m book breaks u board board' ≡ printed m book words breaks bound u (suc n) r = λ i. at.1.lines i ++ sym same_lines i in (
                suc n,
                record {
                  here = stands_shown left' held' state board' following shows;
                  going = going_more state m book words breaks bound u times n r at.1.going (here.its_end ∙ live) (omega arith);
                  out = front_shown left' held' state board' following shows;
                  err = subst (λ (t : List ℕ). GotInPart said0 t said') all (puts_then {E = ℕ} said0 said said' text (text_between state m book breaks u board board') (Err 0) prints front);
                  told = λ k same.
                      told_last m book words breaks bound u r said0 said' said n k same (subst (λ (t : List ℕ). Got said0 t said) at.1.lines prints)
                      (subst (λ (t : List ℕ). GotInPart said t said') (sym same_lines) front);
                },
              ),
        )

    -- in the turn, after k turns that count no cycle
    broken_at : (r : MicroRun State) (rest : List ℕ) (n k : ℕ) → IsUnderway state m book words breaks bound u times left held board rest text w n r → said' ≡ said →
        StandsAfter state board' (turns m words (Some bound) k (after m book words breaks bound u n r)) →
        IsFrontOf held' (turns m words (Some bound) k (after m book words breaks bound u n r)).world.given →
        (turns m words (Some bound) k (after m book words breaks bound u n r)).counts.cycles ≡ (after m book words breaks bound u n r).counts.cycles →
        (j : ℕ) × IsBroken state m book words breaks bound u times held' board' said0 said' j r
    broken_at r rest n zero at silent stands front same = (
      n,
      record {
        here = stands;
        going = at.going;
        out = front;
        err = subst (λ (t : List ℕ). GotInPart said0 t said') at.lines (puts_passed {E = ℕ} said0 said said' text (Err 0) prints silent);
        told = λ k e. told_all m book words breaks bound u r said0 said' k n e (subst (λ (t : List ℕ). Got said0 t said') at.lines (silent ∙ prints));
      },
    )
    broken_at r rest n (suc k) at silent stands front same =
        let before = after m book words breaks bound u n r in
        let so_far : passed m book words breaks bound u n r + w ≡ times = at.count in
        let is : turns m words (Some bound) (suc k) before ≡ after m book words breaks bound u (suc n) r =
        (turns-uncounted m words (Some bound) k before same).0 ∙ sym (turns-suc m words (Some bound) r n) in (
          suc n,
          record {
            here = subst (λ (x : MicroRun State). StandsAfter state board' x) is stands;
            going = going_more state m book words breaks bound u times n r at.going (at.here.its_end ∙ live) (omega arith);
            out = subst (λ (x : MicroRun State). IsFrontOf held' x.world.given) is front;
            err = puts_first {E = ℕ} said0 said' (printed m book words breaks bound u n r) (turn_lines m book words breaks bound u before (after m book words breaks bound u (suc n) r)) 0
                (subst (λ (t : List ℕ). GotInPart said0 t said') at.lines (puts_passed {E = ℕ} said0 said said' text (Err 0) prints silent));
            told = λ j e.
                told_last m book words breaks bound u r said0 said' said n j e (subst (λ (t : List ℕ). Got said0 t said) at.lines prints)
                (got_none said said' (turn_lines m book words breaks bound u before (after m book words breaks bound u (suc n) r)) silent);
          },
        )

    broken_in : EndsUncounted board board' → board'.end ≡ Some ends.WriteFault → TurnIsCut state m bound left held board left' held' board' → said' ≡ said →
        IsLedTo state left0 held0 board0 left' board' (λ r rest. (n : ℕ) × IsBroken state m book words breaks bound u times held' board' said0 said' n r)
    broken_in still ended write silent rest fits =
        let one = write live ended rest fits in
        let far = led one.0 one.1 in (
          far.0,
          far.1,
          λ r s e.
              let at = far.2 r s e in
              let before = after m book words breaks bound u at.0 r in
              let leads = one.2 before at.1.here at.1.untaken in
              let k = leads.0 in
              let cut = leads.1.here.cut in
              let here : turns m board.store.words (Some bound) k before ≡ turns m words (Some bound) k before =
              ap (λ (ws : List ℕ). turns m ws (Some bound) k before) program in
              let cycles : board'.counts.cycles ≡ before.counts.cycles =
              (still (subst IsSome (sym ended) refl)).0 ∙ ap (λ (c : Counts). c.cycles) (sym at.1.here.counts) in
              let stands : StandsAfter state board' (turns m words (Some bound) k before) =
              subst (λ (x : MicroRun State). StandsAfter state board' x) here
              (record { its_state = cut.its_state; memory = cut.memory; counts = cut.counts; its_end = inr ended }) in
              broken_at r one.0 at.0 k at.1 silent stands (subst (λ (x : MicroRun State). IsFrontOf held' x.world.given) here cut.front)
              (ap (λ (x : MicroRun State). x.counts.cycles) (sym here) ∙ ap (λ (c : Counts). c.cycles) cut.counts ∙ cycles),
        )

    -- in one more turn
    pub broken_more : EndsUncounted board board' → board'.end ≢ Some ends.ReadFault →
        IsTurned state m left held board left' held' board' (Some bound) → TurnIsCut state m bound left held board left' held' board' →
        (board'.end ≢ Some ends.WriteFault → GotInPart said (text_between state m book breaks u board board') said') → (board'.end ≡ Some ends.WriteFault → said' ≡ said) →
        IsLedTo state left0 held0 board0 left' board' (λ r rest. (n : ℕ) × IsBroken state m book words breaks bound u times held' board' said0 said' n r)
    broken_more still unread turned write front silent =
        elim (write_or_not board'.end) [
          | inl ended ↦ broken_in still ended write (silent ended)
          | inr well ↦ broken_after (no_fault board.end board'.end (λ _. unread) (λ _. well)) turned (front well)
        ]

-- ---- plans

-- a plan that was carried out whole was begun
begun_whole : {State : Type 0} (m : Meaning State) (rules : Rules) (said said' : Option (List ℕ)) (plan : Plan) (s : Stand State) (text : List ℕ) (run : MicroRun State) →
    Got said text said' → Carries m rules (IsWhole m rules) plan s text run →
    Carries m rules (λ s u times n. IsPart m rules s u times n × IsTold m rules.book rules.words s.breaks rules.bound u said said' n s.run) plan s text run
begun_whole m rules said said' (plans.Clock u times) s text run got c = (
  c.0,
  (
    c.1.going,
    λ k e. told_all m rules.book rules.words s.breaks rules.bound u s.run said said' k c.0 e (subst (λ (t : List ℕ). Got said t said') c.3 got),
  ),
  c.2,
  c.3,
)
begun_whole m rules said said' (plans.Show shown) s text run got c = c

module _ {M State : Type 0} (state : M → State) (m : Meaning State) (line : List ℕ) (old : SessionView M) (at at' : Streams) (board' : BoardView M) where
  abbrev BreaksLine : Type 0
  BreaksLine =
      IsBrokenOff state old.listing at at' old.board board'
      (λ book r rest. IsBrokenAt state m old board' at at' (rules_of old book) (plan_at m (rules_of old book) (stand_in old r) line) (stand_in old r))

  -- a line whose plan was broken off
  pub plan_broken : IsPlanBroken state m old board' at at' (plan_in old line) → BreaksLine
  plan_broken broken =
      record {
        breaks = λ unread book is_book.
            led_on state at.input.left at.out.held old.board at'.input.left board' board' _ _ refl
            (λ r rest here b.
            subst (λ (p : Plan). IsBrokenAt state m old board' at at' (rules_of old book) p (stand_in old r)) (same_plan state m line book old at.input.left at.out.held r here) b)
            (broken.breaks unread book is_book);
        failed = broken.failed;
      }

  -- a line whose plan was carried out before the flush failed
  pub flush_broken : (board : BoardView M) (mid : Streams) → IsCarriedOut state m old board at mid (plan_in old line) → at'.input.left ≡ mid.input.left → at'.err.held ≡ mid.err.held →
      board'.bus.console.ended ≡ board.bus.console.ended → board'.end ≡ board.end →
      ((r : MicroRun State) → ShowsRun state mid.input.left mid.out.held board r → StandsAfter state board' r) →
      ((r : MicroRun State) → ShowsRun state mid.input.left mid.out.held board r → IsFrontOf at'.out.held r.world.given) → SinkFailed at at' → BreaksLine
  flush_broken board mid done input held same end stands front failed =
      record {
        breaks = λ unread book is_book.
            let rules = rules_of old book in
            let far = done.led (λ none read. unread none (end ∙ read)) book is_book in
            let got : Got at.err.held far.0 at'.err.held = held ∙ far.1 in
            subst
            (λ (left : Option (List ℕ)). IsLedTo state at.input.left at.out.held old.board left board'
            (λ r rest. IsBrokenAt state m old board' at at' rules (plan_at m rules (stand_in old r) line) (stand_in old r))) (sym input)
            (led_on state at.input.left at.out.held old.board mid.input.left board board' _ _ same
            (λ r rest here c.
            record {
              run = c.0;
              text = far.0;
              begun = begun_whole m rules at.err.held at'.err.held (plan_at m rules (stand_in old r) line) (stand_in old r) far.0 c.0 got
                  (subst (λ (p : Plan). Carries m rules (IsWhole m rules) p (stand_in old r) far.0 c.0) (same_plan state m line book old at.input.left at.out.held r here) c.1);
              here = stands c.0 c.2;
              out = front c.0 c.2;
              err = in_part at.err.held at'.err.held far.0 got;
            }) far.2);
        failed = failed;
      }

module _ {M State : Type 0} (state : M → State) (m : Meaning State) (v : SessionView M) (at : Streams) (err : SinkState) (shown : Shown) where
  -- what is shown carries its plan out
  pub shown_whole : {X : Type 0} (result : Result Unit X) → ((book : Book) → IsBookOf v.listing book →
      Puts at.err.held (shown_text book v.listing.memory (m.registers (state v.board.machine)) v.board.counts v.board.bus.words shown) result err.held) →
      HasCause at.err.faults err.faults result → OnOk result (IsCarriedOut state m v v.board at (record at { err = err }) (plans.Show shown))
  shown_whole (Err e) puts cause = tt
  shown_whole (Ok done) puts cause =
      record {
        led = λ well book is_book. (
          shown_text book v.listing.memory (m.registers (state v.board.machine)) v.board.counts v.board.bus.words shown,
          puts book is_book,
          λ rest fits. (rest, fits, λ r here e. (r, (refl, same_shown state m book v at.input.left at.out.held r here shown), here, e)),
        );
        stopped = λ none read. absurd (cc);
        unbroken = λ none write. cc;
        sinks = record { flushed = λ h. h; out = refl; err = cause.quiet };
      }

  -- where `err` fails, it breaks the plan off
  pub shown_in_part : {X : Type 0} (result : Result Unit X) → ((book : Book) → IsBookOf v.listing book →
      Puts at.err.held (shown_text book v.listing.memory (m.registers (state v.board.machine)) v.board.counts v.board.bus.words shown) result err.held) →
      HasCause at.err.faults err.faults result → OnErr result (IsPlanBroken state m v v.board at (record at { err = err }) (plans.Show shown))
  shown_in_part (Ok done) puts cause = tt
  shown_in_part (Err e) puts cause =
      record {
        breaks = λ unread book is_book rest fits. (
          rest,
          fits,
          λ r here e.
              record {
                run = r;
                text = shown_text book v.listing.memory (m.registers r.state) r.counts r.world.words shown;
                begun = (refl, refl);
                here = stands_shown at.input.left at.out.held state v.board r here;
                out = front_shown at.input.left at.out.held state v.board r here;
                err = subst (λ (t : List ℕ). GotInPart at.err.held t err.held) (same_shown state m book v at.input.left at.out.held r here shown) (puts book is_book);
              },
        );
        failed = inr cause.failed;
      }

-- a flush leaves a board where it stood
pub stands_flushed : {M State : Type 0} (state : M → State) (left held : Option (List ℕ)) (board board' : BoardView M) → state board'.machine ≡ state board.machine → board'.bus.words ≡ board.bus.words →
    board'.counts ≡ board.counts → board'.end ≡ board.end → (r : MicroRun State) → ShowsRun state left held board r → StandsAfter state board' r
stands_flushed state left held board board' machine words counts end r shows =
    record {
      its_state = shows.its_state ∙ sym machine;
      memory = shows.world.words ∙ sym words;
      counts = shows.counts ∙ sym counts;
      its_end = inl (shows.its_end ∙ sym end);
    }

-- a flush leaves a front of what was given
pub front_flushed : {M State : Type 0} (state : M → State) (held held' : Option (List ℕ)) (board board' : BoardView M) (result : Result Unit BusFault) →
    OnOk result (ShowsAs state held board held' board' (λ r. r)) → ((left : Option (List ℕ)) → IfErr result (Stands left held board.bus left held' board'.bus)) →
    IfErr result (λ e. e ≡ faults.WriteFault) → HoldsFront state held board held'
front_flushed state held held' board board' (Ok done) shows err is left r here = front_shown left held' state board' r (shows left r here)
front_flushed state held held' board board' (Err e) shows err is left r here =
    front_lost held held' board.bus.console.kept board'.bus.console.kept r.world.given ((err left).lost is) here.world.given
