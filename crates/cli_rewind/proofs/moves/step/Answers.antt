use Rattle.cli_rewind.proofs.Common.{◌≡◌, ◌≢◌, [], Some, None, ap, no_rise, plain_left, GoesBack, Keeps}
use Rattle.mic_clock.specs.declared.end.End.TheVariants as ends
use Rattle.cli_rewind.proofs.Stepping.{step_cuts, step_faulted, step_leads, step_moved}
use Rattle.cli_rewind.proofs.moves.step.Goals as goal

pub returns-then-sink_failed-clause-cut : goal.returns-then-sink_failed-clause-cut
returns-then-sink_failed-clause-cut g c =
    let state = g.M.Clocked.state in
    let m = g.M.Clocked.meaning in
    let v = c.args.rewind.now in
    let v' = c.forward.new.self in
    let left = plain_left c.args.input.now in
    let left' = plain_left c.forward.new.source in
    let held = g.K.Sink.held c.args.out.now in
    let held' = g.K.Sink.held c.forward.new.sink in
    let does = c.forward.ensures in
    let fault : c.met-end.result ≡ Some ends.WriteFault = c.sink_failed.ensures.yes c.if-sink_failed.true in
    let at =
    step_faulted state m left left' held held' v v' c.met-end.result fault
    (λ some. c.met-end.ensures v.history.here.moment.counts v'.history.here.moment.counts None (does.moves some).tick) (λ e is. (does.goes_on.ended e is).0)
    (λ none. c.met-end.ensures v.board.counts v'.board.counts v'.board.end (does.clocks none).tick) c.requires.well in
    record {
      cuts = step_cuts state m left left' held held' v v' at.1 (does.clocks at.0).cut at.2;
      keeps = does.goes_on.sink_goes_on.keeps;
      rose = does.goes_on.cause.write at.1 at.2;
    }

pub returns-clause-went : goal.returns-clause-went
returns-clause-went g c =
    let state = g.M.Clocked.state in
    let m = g.M.Clocked.meaning in
    let v = c.args.rewind.now in
    let v' = c.forward.new.self in
    let left = plain_left c.args.input.now in
    let left' = plain_left c.forward.new.source in
    let held = g.K.Sink.held c.args.out.now in
    let held' = g.K.Sink.held c.forward.new.sink in
    let does = c.forward.ensures in
    let well : c.met-end.result ≢ Some ends.WriteFault = c.sink_failed.ensures.no c.if-sink_failed.false in
    let end_is : v.history.after ≡ [] → c.met-end.result ≡ v'.board.end = λ none. c.met-end.ensures v.board.counts v'.board.counts v'.board.end
    (does.clocks none).tick in
    let moves : v.history.after ≢ [] → GoesBack v'.history v.history × (v'.board ≡ v.board) = λ some. ((does.moves some).went, (does.moves some).board) in
    let keeps : v.history.after ≡ [] → Keeps state m v v' = λ none. (does.clocks none).keeps in
    let moved = step_moved state m left left' held held' v v' c.met-end.result moves keeps end_is c.requires.well well does.goes_on.store does.growth in
    record {
      leads =
          step_leads state m left left' held held' v v' c.met-end.result moves
          (λ some. (
            c.met-end.ensures v.history.here.moment.counts v'.history.here.moment.counts None (does.moves some).tick,
            ap plain_left (does.moves some).source_same,
            ap g.K.Sink.held (does.moves some).sink_same,
          ))
          (λ none. (does.clocks none).turn) keeps end_is (λ none live e. no_rise (does.goes_on.cause.read live e)) well does.goes_on.store;
      moved = moved;
      flushed = does.goes_on.sink_goes_on.flushed moved.well;
      faults = does.goes_on.cause.sink_same (λ live. moved.well);
      keeps = does.goes_on.sink_goes_on.keeps;
    }
