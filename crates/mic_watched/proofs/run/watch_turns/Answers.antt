use Rattle.mic_watched.proofs.Common.{◌≡◌, ◌++◌, ℕ, max, List, [], None, Ok, inl, refl, ap, rules, arith, err_from_is_err_and, Cycle, shown_on, ShowsCycles}
use Rattle.micro_word.specs.Prelude.{ControlStore}
use Rattle.mic_clock.specs.Prelude.{goes-nowhere, goes-then, last_cycles}
use Rattle.mic_watched.proofs.Shown.{over-start, one-turn, shows-then}
use Rattle.mic_watched.proofs.Saying.{saw-nothing, saw-then, cause-then}
use Rattle.mic_watched.proofs.run.watch_turns.Given.{Over}
use Rattle.mic_watched.proofs.run.watch_turns.Goals as goal
use Rattle.mic_watched.proofs.run.watch_turns.Goals.{After-turn}

pub turns-init : goal.turns-init
turns-init g c =
    let state = g.M.Clocked.state in
    let m = g.M.Clocked.meaning in
    let board = c.args.board.now in
    let not_ended : board.end ≡ None = c.requires.board.not_ended in
    record {
      watched = record {
        cycles = [];
        run = record {
          run = λ q. over-start state m c.args.bound (g.S.Source.left c.args.source.now) (g.K.Sink.held c.args.sink.now) board;
          read = λ p. absurd (cc);
          write = λ p. absurd (cc);
        };
        saw = saw-nothing g.W.Watcher.keeps g.W.Watcher.Prints (g.W.Watcher.kept c.args.watcher.now) (g.E.Sink.held c.args.err.now);
      };
      goes_on = goes-nowhere;
      said = record { later = omega arith; failed = tt; quiet = refl };
      in_time = record { cycles = omega arith; ordered = c.requires.board.ordered; near = c.requires.board.near; last = λ _. inl (omega arith) };
    }

-- the cycle that the last turn shows, and the run with it
abbrev last : (g : Over) → After-turn g → List Cycle
last g c = shown_on g.M.Clocked.state g.M.Clocked.meaning c.mpc-mpc.result c.turn.new.self

shows : (g : Over) → (c : After-turn g) →
    ShowsCycles g.M.Clocked.state g.M.Clocked.meaning c.args.bound (g.S.Source.left c.args.source.now) (g.K.Sink.held c.args.sink.now) c.args.board.now
    (g.S.Source.left c.turn.new.source) (g.K.Sink.held c.turn.new.sink) c.turn.new.self (c.turns.invariant.watched.cycles ++ last g c) c.turn.new.self.end
shows g c =
    let state = g.M.Clocked.state in
    let m = g.M.Clocked.meaning in
    let old = c.turns.board in
    let inv = c.turns.invariant in
    let not_ended : old.end ≡ None = search rules in
    let program = ap (λ (s : ControlStore). s.words) inv.goes_on.store in
    shows-then state m c.args.bound _ _ c.args.board.now _ _ old _ _ c.turn.new.self inv.watched.cycles (last g c) program not_ended inv.watched.run
    (one-turn state m c.args.bound _ _ old _ _ c.turn.new.self c.mpc-mpc.result c.mpc-mpc.ensures.value inv.in_time.ordered not_ended
    c.turn.ensures.counted c.turn.ensures.turn c.turn.ensures.read c.turn.ensures.write)

pub turns-preserved : goal.turns-preserved
turns-preserved g c =
    let inv = c.turns.invariant in
    let turned = (goal.at.turns-preserved g c).After-turn in
    let not_ended : c.turns.board.end ≡ None = search rules in
    let top : ℕ = max c.args.bound (last_cycles c.args.board.now.counts.boundary) in
    record {
      watched = record {
        cycles = inv.watched.cycles ++ last g turned;
        run = shows g turned;
        saw = saw-then g.W.Watcher.keeps g.W.Watcher.Prints (g.W.Watcher.kept c.args.watcher.now) (g.W.Watcher.kept c.turns.watcher) (g.W.Watcher.kept c.show.new.watcher)
            (g.E.Sink.held c.args.err.now) (g.E.Sink.held c.turns.err) (g.E.Sink.held c.show.new.err) inv.watched.cycles (last g turned) (Ok (tt {0})) inv.watched.saw c.in_ok-show.ensures.saw;
      };
      goes_on = goes-then c.requires.board.not_ended inv.goes_on not_ended c.turn.ensures.goes_on;
      said = cause-then (g.E.Sink.faults c.args.err.now) (g.E.Sink.faults c.turns.err) (g.E.Sink.faults c.show.new.err) tt (Ok (tt {0})) inv.said c.in_ok-show.ensures.cause;
      in_time = c.turn.ensures.in_time top (omega arith) not_ended inv.in_time;
    }

pub returns-in_err-show-clause-watched : goal.returns-in_err-show-clause-watched
returns-in_err-show-clause-watched g c =
    let inv = c.turns.invariant in
    let turned = (goal.at.returns-in_err-show-clause-watched g c).After-turn in
    let p = err_from_is_err_and c.from_residual.result c.from_residual.ensures.1 in
    rw (p.1, p.2) (record {
      cycles = inv.watched.cycles ++ last g turned;
      run = shows g turned;
      saw = saw-then g.W.Watcher.keeps g.W.Watcher.Prints (g.W.Watcher.kept c.args.watcher.now) (g.W.Watcher.kept c.turns.watcher) (g.W.Watcher.kept c.show.new.watcher)
          (g.E.Sink.held c.args.err.now) (g.E.Sink.held c.turns.err) (g.E.Sink.held c.show.new.err) inv.watched.cycles (last g turned) _ inv.watched.saw c.in_err-show.ensures.saw;
    })

pub returns-in_err-show-clause-goes_on : goal.returns-in_err-show-clause-goes_on
returns-in_err-show-clause-goes_on g c =
    let not_ended : c.turns.board.end ≡ None = search rules in
    goes-then c.requires.board.not_ended c.turns.invariant.goes_on not_ended c.turn.ensures.goes_on
