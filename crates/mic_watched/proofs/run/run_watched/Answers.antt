use Rattle.mic_watched.proofs.Common.{◌≡◌, ◌∙◌, [], Option, None, Some, ap, refl, sym, subst, rules, err_from_is_err_and, End, ShowsCycles}
use Rattle.console_port.specs.declared.fault.BusFault.TheVariants as faults
use Rattle.mic_clock.specs.declared.end.End.TheVariants as ends
use Rattle.mic_clock.specs.Prelude.{BoardView, GoesOn, NoFault, cause-flushed, cause-lost, goes-flushed, no_fault}
use Rattle.mic_watched.proofs.Shown.{flush-done, flush-lost}
use Rattle.mic_watched.proofs.run.run_watched.Goals as goal

pub returns-in_err-watch_turns-clause-watched : goal.returns-in_err-watch_turns-clause-watched
returns-in_err-watch_turns-clause-watched g c =
    let w = c.in_err-watch_turns.ensures.watched in
    let p = err_from_is_err_and c.from_residual.result c.from_residual.ensures.1 in
    rw (p.1, p.2) (record {
      cycles = w.cycles;
      run = subst (λ (e : Option End). ShowsCycles g.M.Clocked.state g.M.Clocked.meaning c.args.bound (g.S.Source.left c.args.source.now) (g.K.Sink.held c.args.sink.now) c.args.board.now
          (g.S.Source.left c.watch_turns.new.source) (g.K.Sink.held c.watch_turns.new.sink) c.watch_turns.new.board w.cycles e) c.in_err-watch_turns.ensures.not_ended w.run;
      saw = w.saw;
    })

pub returns-in_err-watch_turns-clause-goes_on : goal.returns-in_err-watch_turns-clause-goes_on
returns-in_err-watch_turns-clause-goes_on g c =
    let p = err_from_is_err_and c.from_residual.result c.from_residual.ensures.1 in
    rw p.1
    (subst (λ (e : Option End). GoesOn g.S.Source.left g.S.Source.faults g.K.Sink.held g.K.Sink.passed g.K.Sink.faults c.args.source.now c.args.sink.now c.args.board.now
    c.watch_turns.new.source c.watch_turns.new.sink (record c.watch_turns.new.board { end = e })) c.in_err-watch_turns.ensures.not_ended c.in_err-watch_turns.ensures.goes_on)

pub returns-in-Ok-clause-watched : goal.returns-in-Ok-clause-watched
returns-in-Ok-clause-watched g c =
    let state = g.M.Clocked.state in
    let m = g.M.Clocked.meaning in
    let mid = c.watch_turns.new.board in
    let new = c.flush.new.self in
    let left0 = g.S.Source.left c.args.source.now in
    let held0 = g.K.Sink.held c.args.sink.now in
    let left = g.S.Source.left c.watch_turns.new.source in
    let held = g.K.Sink.held c.watch_turns.new.sink in
    let held' = g.K.Sink.held c.flush.new.sink in
    let w = c.in_ok-watch_turns.ensures.watched in
    let ends_so : mid.end ≡ Some c.unwrap-end.result = search rules in
    record {
      cycles = w.cycles;
      run = subst (λ (e : Option End). ShowsCycles state m c.args.bound left0 held0 c.args.board.now left held' new w.cycles e) ends_so
          (flush-done state m c.args.bound left0 held0 c.args.board.now left held mid held' new w.cycles c.flush.ensures.same.0 c.flush.ensures.same.1.1
          c.in-Ok.ensures.ok (λ none. let same = c.flush.ensures.empty none in (same.1, ap g.K.Sink.held same.2))
          (λ p. c.in_ok-watch_turns.ensures.goes_on.kept faults.ReadFault c.requires.board.not_ended tt p) (λ p. c.in_ok-watch_turns.ensures.goes_on.kept faults.WriteFault c.requires.board.not_ended tt p) w.run);
      saw = w.saw;
    }

pub returns-in-Err-clause-watched : goal.returns-in-Err-clause-watched
returns-in-Err-clause-watched g c =
    let state = g.M.Clocked.state in
    let m = g.M.Clocked.meaning in
    let mid = c.watch_turns.new.board in
    let new = c.flush.new.self in
    let left0 = g.S.Source.left c.args.source.now in
    let held0 = g.K.Sink.held c.args.sink.now in
    let left = g.S.Source.left c.watch_turns.new.source in
    let held = g.K.Sink.held c.watch_turns.new.sink in
    let held' = g.K.Sink.held c.flush.new.sink in
    let w = c.in_ok-watch_turns.ensures.watched in
    let kept : mid.bus.console.kept ≡ [] → ⊥ = λ none. let done = (c.in-Err.ensures.empty none).0 in cc in
    let plain : NoFault None mid.end =
    no_fault None mid.end (λ n p. kept (c.in_ok-watch_turns.ensures.goes_on.kept faults.ReadFault c.requires.board.not_ended tt p)) (λ n p. kept (c.in_ok-watch_turns.ensures.goes_on.kept faults.WriteFault c.requires.board.not_ended tt p)) in
    record {
      cycles = w.cycles;
      run = flush-lost state m c.args.bound left0 held0 c.args.board.now left held mid held' new w.cycles c.flush.ensures.same.0 c.flush.ensures.same.1.1
          c.in_ok-watch_turns.ensures.ended kept plain c.flush.ensures.same.1.0 ((c.in-Err.ensures.err left).lost c.in-Err.ensures.fault) w.run;
      saw = w.saw;
    }

pub returns-in-Ok-clause-goes_on : goal.returns-in-Ok-clause-goes_on
returns-in-Ok-clause-goes_on g c =
    let mid = c.watch_turns.new.board in
    let end : End = c.unwrap-end.result in
    let ends_so : mid.end ≡ Some end = search rules in
    goes-flushed c.requires.board.not_ended c.in_ok-watch_turns.ensures.goes_on c.flush.new.self (Some end)
    (ap (λ (b : BoardView g.row.M.Denot). b.store) c.flush.ensures.same.0) c.flush.ensures.same.1.1 c.flush.ensures.kept c.flush.ensures.sink
    (λ q. (λ p. q (sym ends_so ∙ p), λ p. cc))
    (cause-flushed _ _ _ _ _ _ mid.end (Some end) (c.flush.ensures.cause.sink_same (λ p. cc)) ends_so c.in_ok-watch_turns.ensures.goes_on.cause)

pub returns-in-Err-clause-goes_on : goal.returns-in-Err-clause-goes_on
returns-in-Err-clause-goes_on g c =
    let mid = c.watch_turns.new.board in
    let kept : mid.bus.console.kept ≡ [] → ⊥ = λ none. let done = (c.in-Err.ensures.empty none).0 in cc in
    let goes_on = c.in_ok-watch_turns.ensures.goes_on in
    let not_ended = c.requires.board.not_ended in
    let plain : NoFault None mid.end =
    no_fault None mid.end (λ n p. kept (goes_on.kept faults.ReadFault not_ended tt p)) (λ n p. kept (goes_on.kept faults.WriteFault not_ended tt p)) in
    goes-flushed not_ended goes_on c.flush.new.self (Some ends.WriteFault)
    (ap (λ (b : BoardView g.row.M.Denot). b.store) c.flush.ensures.same.0) c.flush.ensures.same.1.1 c.flush.ensures.kept c.flush.ensures.sink (λ q. absurd (q refl))
    (cause-lost _ _ _ _ _ _ mid.end not_ended plain goes_on.cause (c.in-Err.ensures.cause.write (ap (λ e. e) (search rules))) c.flush.ensures.cause.sink_later)
