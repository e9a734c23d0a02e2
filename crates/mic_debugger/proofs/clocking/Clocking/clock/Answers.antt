use Rattle.mic_debugger.proofs.Common.{◌≡◌, ◌⊎◌, ◌+◌, ◌<◌, ◌++◌, ◌∙◌, ◌^◌, ℕ, [], None, Ok, IsSome, refl, sym, ap, rules, ControlStore, puts_nothing, puts_then}
use Rattle.mic_debugger.proofs.Common.{on_err_of, no_fault}
use Rattle.mic_debugger.specs.Prelude.{session_at, streams, text_between}
use Rattle.mic_debugger.proofs.Breaking.{broken_more, either_end}
use Rattle.mic_debugger.proofs.Underway.{underway_start, underway_more, underway_stopped, clocked_of}
use Rattle.mic_debugger.proofs.Carrying.{clocked_broken, failed_after}
use Rattle.mic_debugger.proofs.InputCauses.{cause_start, cause_more}
use Rattle.mic_debugger.proofs.clocking.Clocking.clock.Goals as goal

pub turns-init : goal.turns-init
turns-init g c =
    let state = g.M.Clocked.state in
    let m = g.M.Clocked.meaning in
    let board = c.args.board.now in
    let live : board.end ≡ None = c.requires.live in
    record {
      through = record {
        led = λ q book is_book. (
          [],
          puts_nothing (g.E.Sink.held c.args.err.now),
          underway_start state m book board.store.words c.args.self.now.breaks.now c.args.self.now.bound c.args.self.now.until c.args.times
              (g.S.Source.left c.args.input.now) (g.K.Sink.held c.args.out.now) board,
        );
        stopped = λ none p. absurd (cc);
        unbroken = λ none e. cc;
        sinks = record { flushed = λ h. h; out = refl; err = refl };
      };
      input = cause_start (g.S.Source.faults c.args.input.now) board.end live;
      store = refl;
      keeps = record { out = λ front h. h; err = λ front h. h };
      in_time = c.requires.in_time;
    }

pub turns-preserved : goal.turns-preserved
turns-preserved g c =
    let state = g.M.Clocked.state in
    let m = g.M.Clocked.meaning in
    let self = c.args.self.now in
    let first = c.args.board.now in
    let old = c.turns.board in
    let new = c.turn.new.board in
    let left0 = g.S.Source.left c.args.input.now in
    let held0 = g.K.Sink.held c.args.out.now in
    let left = g.S.Source.left c.turns.input in
    let held = g.K.Sink.held c.turns.out in
    let left' = g.S.Source.left c.turn.new.input in
    let held' = g.K.Sink.held c.turn.new.out in
    let said0 = g.E.Sink.held c.args.err.now in
    let said = g.E.Sink.held c.turns.err in
    let said' = g.E.Sink.held c.turn.new.err in
    let inv = c.turns.invariant in
    let live : old.end ≡ None = search rules in
    let some : 0 < c.turns.left = search rules in
    let program : old.store.words ≡ first.store.words = ap (λ (s : ControlStore). s.words) inv.store in
    let goes_on = c.turn.ensures.goes_on in
    let printed = c.in_ok-came.ensures.printed in
    record {
      through = record {
        led = λ q book is_book.
            let before = inv.through.led (λ _ e. cc) book is_book in
            let text = text_between state m book self.breaks.now self.until old new in (
              before.0 ++ text,
              puts_then {E = ℕ} said0 said said' before.0 text (Ok tt) before.1 (printed.text book is_book),
              underway_more state m book first.store.words self.breaks.now self.bound self.until c.args.times left0 held0 first left held old left' held' new
                  before.0 c.turns.left program live some before.2 c.less-rest.result (ap (λ (n : ℕ). n + c.less-rest.result) (sym printed.came) ∙ c.less-rest.ensures)
                  (c.turn.ensures.turn (no_fault old.end new.end (λ _. q c.requires.live) (λ _. printed.unbroken))),
            );
        stopped = λ none p book is_book.
            let before = inv.through.led (λ _ e. cc) book is_book in
            let text = text_between state m book self.breaks.now self.until old new in (
              before.0 ++ text,
              puts_then {E = ℕ} said0 said said' before.0 text (Ok tt) before.1 (printed.text book is_book),
              underway_stopped state m book first.store.words self.breaks.now self.bound self.until c.args.times left0 held0 first left held old left' held' new
                  before.0 c.turns.left program live some before.2 p (c.turn.ensures.read live p),
            );
        unbroken = λ none. printed.unbroken;
        sinks = record {
          flushed = λ h. goes_on.sink_goes_on.flushed printed.unbroken (inv.through.sinks.flushed h);
          out = goes_on.cause.sink_same (λ _. printed.unbroken) ∙ inv.through.sinks.out;
          err = (printed.cause printed.unbroken).quiet ∙ inv.through.sinks.err;
        };
      };
      input = cause_more live inv.input goes_on.cause;
      store = goes_on.store ∙ inv.store;
      keeps = record {
        out = λ front h. goes_on.sink_goes_on.keeps front (inv.keeps.out front h);
        err = λ front h. printed.keeps front (inv.keeps.err front h);
      };
      in_time = c.turn.ensures.in_time (2 ^ 62) c.requires.bound live inv.in_time;
    }

pub returns-clause-done : goal.returns-clause-done
returns-clause-done g c =
    let state = g.M.Clocked.state in
    let m = g.M.Clocked.meaning in
    let self = c.args.self.now in
    let first = c.args.board.now in
    let board = c.turns.board in
    let over : IsSome board.end ⊎ (c.turns.left ≡ 0) = search rules in
    let through = c.turns.invariant.through in
    λ watched.
    record {
      led = λ q book is_book.
          let at = through.led q book is_book in (
            at.0,
            at.1,
            clocked_of state m book first.store.words self.breaks.now self.bound self.until c.args.times (g.S.Source.left c.args.input.now) (g.K.Sink.held c.args.out.now) first
                (g.S.Source.left c.turns.input) (g.K.Sink.held c.turns.out) board at.0 c.turns.left over at.2,
          );
      stopped = through.stopped;
      unbroken = through.unbroken;
      sinks = through.sinks;
    }

pub returns-in_err-came-clause-broken : goal.returns-in_err-came-clause-broken
returns-in_err-came-clause-broken g c =
    let state = g.M.Clocked.state in
    let m = g.M.Clocked.meaning in
    let self = c.args.self.now in
    let first = c.args.board.now in
    let old = c.turns.board in
    let new = c.turn.new.board in
    let inv = c.turns.invariant in
    let live : old.end ≡ None = search rules in
    let some : 0 < c.turns.left = search rules in
    let program : old.store.words ≡ first.store.words = ap (λ (s : ControlStore). s.words) inv.store in
    let at = streams g.S.Source.left g.S.Source.faults c.args.input.now g.K.Sink.held g.K.Sink.passed g.K.Sink.faults c.args.out.now g.E.Sink.held g.E.Sink.passed g.E.Sink.faults c.args.err.now in
    let at' = streams g.S.Source.left g.S.Source.faults c.turn.new.input g.K.Sink.held g.K.Sink.passed g.K.Sink.faults c.turn.new.out g.E.Sink.held g.E.Sink.passed g.E.Sink.faults c.turn.new.err in
    let goes_on = c.turn.ensures.goes_on in
    let printed = c.in_err-came.ensures.printed in
    on_err_of _ c.from_residual.result
    (λ watched.
    clocked_broken state m (session_at first self.listing.now self.bound self.breaks.now watched) new at at' self.until c.args.times
    (λ unread book is_book.
    let before = inv.through.led (λ _ e. cc) book is_book in
    broken_more state m book first.store.words self.breaks.now self.bound self.until c.args.times (g.S.Source.left c.args.input.now) (g.K.Sink.held c.args.out.now) first
    (g.S.Source.left c.turns.input) (g.K.Sink.held c.turns.out) old (g.S.Source.left c.turn.new.input) (g.K.Sink.held c.turn.new.out) new
    before.0 c.turns.left program live some before.2 (g.E.Sink.held c.args.err.now) (g.E.Sink.held c.turns.err) (g.E.Sink.held c.turn.new.err) before.1
    c.turn.ensures.counted.still (unread c.requires.live) c.turn.ensures.turn c.turn.ensures.write (λ well. printed.front well book is_book) (λ ended. ap g.E.Sink.held (printed.silent ended)))
    (failed_after at.out.faults (g.K.Sink.faults c.turns.out) at'.out.faults at.err.faults (g.E.Sink.faults c.turns.err) at'.err.faults inv.through.sinks.out inv.through.sinks.err
    (either_end new.end (goes_on.cause.write live) (λ well. (printed.cause well).failed))))

pub returns-in_err-came-clause-keeps : goal.returns-in_err-came-clause-keeps
returns-in_err-came-clause-keeps g c =
    let keeps = c.turns.invariant.keeps in
    record { out = λ front h. c.turn.ensures.goes_on.sink_goes_on.keeps front (keeps.out front h); err = λ front h. c.turn.ensures.printed.keeps front (keeps.err front h) }
