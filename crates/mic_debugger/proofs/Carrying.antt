-- How a plan leads the runs of a session on.
use Rattle.mic_debugger.proofs.Common.{◌≡◌, ◌≢◌, ◌⊎◌, ℕ, List, [], Bool, Option, None, Some, refl, sym, ◌∙◌, subst, Rose, Untaken, Meaning, MicroRun, BoardView}
use Rattle.mic_debugger.proofs.Common.{ShowsRun, ShowsAs, IsCutByRead, IsLedTo, SinkState, Plan, Shown, Until}
use Rattle.mic_clock.specs.declared.end.End.TheVariants as ends
use Rattle.mic_debugger.specs.declared.plan.Plan.TheVariants as plans
use Rattle.mic_debugger.specs.Prelude.{Book, IsBookOf, after, printed, command_of, DoesTo, IsCarriedOut, IsPlanBroken, StopsTo, plan_in, breaks_after, plan_of, shown_text, watched_after, IsBroken, Carries, IsWhole, plan_at, rules_of, stand_in, GoesThrough, NoSinkFailed, SinkFailed, Streams, SessionView}

-- a sink that failed after none had
pub failed_after : (out out' out'' err err' err'' : ℕ) → out' ≡ out → err' ≡ err → Rose out' out'' ⊎ Rose err' err'' → Rose out out'' ⊎ Rose err err''
failed_after out out' out'' err err' err'' p q h =
    subst (λ (n : ℕ). Rose n out'' ⊎ Rose err err'') p (subst (λ (n : ℕ). Rose out' out'' ⊎ Rose n err'') q h)

module _ {M State : Type 0} (state : M → State) where
  -- what is known of each run that is led to a board holds where another is shown alike
  pub led_on : (left0 held0 : Option (List ℕ)) (board0 : BoardView M) (left : Option (List ℕ)) (board board' : BoardView M) (P Q : MicroRun State → List ℕ → Type 0) →
      board'.bus.console.ended ≡ board.bus.console.ended → ((r : MicroRun State) (rest : List ℕ) → ShowsRun state left0 held0 board0 r → P r rest → Q r rest) →
      IsLedTo state left0 held0 board0 left board P → IsLedTo state left0 held0 board0 left board' Q
  led_on left0 held0 board0 left board board' P Q same f led rest fits =
      let far = led rest (subst (λ (b : Bool). Untaken left b rest) same fits) in (far.0, far.1, λ r s e. f r rest s (far.2 r s e))

  -- a line comes to the same in a session and at each stand that it shows
  pub same_plan : (m : Meaning State) (line : List ℕ) (book : Book) (v : SessionView M) (left held : Option (List ℕ)) (r : MicroRun State) → ShowsRun state left held v.board r →
      plan_in v line ≡ plan_at m (rules_of v book) (stand_in v r) line
  same_plan m line book v left held r here = λ i. plan_of (sym here.its_end i) v.breaks v.watched (sym here.world.words i) (command_of v.listing.memory line)

  -- the same is shown in a session and at each stand that it shows
  pub same_shown : (m : Meaning State) (book : Book) (v : SessionView M) (left held : Option (List ℕ)) (r : MicroRun State) → ShowsRun state left held v.board r → (shown : Shown) →
      shown_text book v.listing.memory (m.registers (state v.board.machine)) v.board.counts v.board.bus.words shown
      ≡ shown_text book v.listing.memory (m.registers r.state) r.counts r.world.words shown
  same_shown m book v left held r here shown =
      λ i. shown_text book v.listing.memory (m.registers (sym here.its_state i)) (sym here.counts i) (sym here.world.words i) shown

  module _ (m : Meaning State) (v : SessionView M) (board : BoardView M) (at at' : Streams) (u : Until) (times : ℕ) where
    -- a clocking command that was broken off breaks its plan off
    pub clocked_broken : ((v.board.end ≡ None → board.end ≢ Some ends.ReadFault) → (book : Book) → IsBookOf v.listing book →
        IsLedTo state at.input.left at.out.held v.board at'.input.left board
        (λ r rest. (n : ℕ) × IsBroken state m book v.board.store.words v.breaks v.bound u times at'.out.held board at.err.held at'.err.held n r)) →
        SinkFailed at at' → IsPlanBroken state m v board at at' (plans.Clock u times)
    clocked_broken broken failed =
        record {
          breaks = λ unread book is_book.
              led_on at.input.left at.out.held v.board at'.input.left board board _ _ refl
              (λ r rest here b.
              record {
                run = after m book v.board.store.words v.breaks v.bound u b.0 r;
                text = printed m book v.board.store.words v.breaks v.bound u b.0 r;
                begun = (b.0, (b.1.going, b.1.told), refl, refl);
                here = b.1.here;
                out = b.1.out;
                err = b.1.err;
              }) (broken unread book is_book);
          failed = failed;
        }

-- ---- a flush after a plan

module _ {M State : Type 0} (state : M → State) (m : Meaning State) (line : List ℕ) (old new : SessionView M) (board : BoardView M) (at mid : Streams) (out err : SinkState)
    (same : new.board.bus.console.ended ≡ board.bus.console.ended) (shows : ShowsAs state mid.out.held board out.held new.board (λ r. r)) where
  cut_flushed : (words : List ℕ) (bound : Option ℕ) (q : MicroRun State) → new.board.bus.console.kept ≡ [] → state new.board.machine ≡ state board.machine → new.board.counts ≡ board.counts →
      IsCutByRead state m words bound mid.input.left mid.out.held board q → IsCutByRead state m words bound mid.input.left out.held new.board q
  cut_flushed words bound q kept same_state same_counts cut =
      let q' : MicroRun State = record { state = q.state; world = q.world; counts = q.counts; end = board.end } in
      let shown : ShowsRun state mid.input.left mid.out.held board q' = record { its_state = cut.its_state; world = cut.world; counts = cut.counts; its_end = refl } in
      record {
        its_state = cut.its_state ∙ sym same_state;
        world = (shows mid.input.left q' shown).world;
        counts = cut.counts ∙ sym same_counts;
        kept = kept;
        next = cut.next;
        reads = cut.reads;
      }

  -- a plan that was carried out, and then a flush, do the line
  pub through_flushed : new.breaks ≡ breaks_after old.breaks (command_of old.listing.memory line) → new.watched ≡ watched_after old.watched (command_of old.listing.memory line) →
      new.board.bus.console.kept ≡ [] → state new.board.machine ≡ state board.machine → new.board.counts ≡ board.counts → new.board.end ≡ board.end → err.held ≡ mid.err.held →
      NoSinkFailed at (record mid { out = out; err = err }) → IsCarriedOut state m old board at mid (plan_in old line) →
      GoesThrough state old.listing at (record mid { out = out; err = err }) old.board new.board (DoesTo state m line old new at (record mid { out = out; err = err }))
      (StopsTo state m old new.board at (record mid { out = out; err = err }) (plan_in old line))
  through_flushed breaks watched kept same_state same_counts end held sinks through =
      record {
        led = λ well book is_book.
            let rules = rules_of old book in
            let far = through.led (λ none read. well none (end ∙ read)) book is_book in (
              far.0,
              held ∙ far.1,
              led_on state at.input.left at.out.held old.board mid.input.left board new.board _ _ same
                  (λ r rest here c. (
                    record { run = c.0; breaks = new.breaks; watched = new.watched },
                    record {
                      carries = subst (λ (p : Plan). Carries m rules (IsWhole m rules) p (stand_in old r) far.0 c.0) (same_plan state m line book old at.input.left at.out.held r here) c.1;
                      breaks = breaks;
                      watched = watched;
                    },
                    record { run = shows mid.input.left c.0 c.2; breaks = refl; watched = refl },
                    c.3,
                  )) far.2,
            );
        stopped = λ none read book is_book.
            let far = through.stopped none (sym end ∙ read) book is_book in (
              far.0,
              held ∙ far.1,
              led_on state at.input.left at.out.held old.board mid.input.left board new.board _ _ same
                  (λ r rest here s. (
                    s.0,
                    s.1,
                    s.2,
                    s.3,
                    s.4,
                    record {
                      cut = cut_flushed _ _ _ kept same_state same_counts s.5.cut;
                      untaken = s.5.untaken;
                      going = s.5.going;
                      waiting = s.5.waiting;
                      lines = s.5.lines;
                    },
                  )) far.2,
            );
        unbroken = λ none write. through.unbroken none (sym end ∙ write);
        sinks = sinks;
      }
