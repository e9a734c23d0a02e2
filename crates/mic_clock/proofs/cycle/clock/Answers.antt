use Rattle.mic_clock.proofs.Common.{inl, refl, subst, BusView}
use Rattle.mic_clock.specs.Prelude.{IsEdgeOver, word_at}
use Rattle.mic_clock.proofs.Whole.{over_told}
use Rattle.mic_clock.proofs.cycle.clock.Goals as goal

pub returns-in-Some-clause-edge : goal.returns-in-Some-clause-edge
returns-in-Some-clause-edge g c =
    let m = g.M.Clocked.meaning in
    let s = g.M.Clocked.state c.args.machine.now in
    over_told m g.S.Source.left g.K.Sink.held _ _ s s refl refl c.args.bus.now c.args.source.now c.args.sink.now
    (g.M.Clocked.state c.clock_inside.new.machine) c.clock_inside.new.bus c.args.source.now c.args.sink.now c.in-Some.stalled
    (record { edge = c.in-Some.ensures.edge (g.S.Source.left c.args.source.now) (g.K.Sink.held c.args.sink.now); waits = λ room. inl refl })

pub returns-in-None-clause-edge : goal.returns-in-None-clause-edge
returns-in-None-clause-edge g c =
    let m = g.M.Clocked.meaning in
    let same = c.in-None.ensures.none in
    let Over : g.M.Clocked.State → BusView → Type 0 = λ s b. IsEdgeOver m g.S.Source.left g.K.Sink.held (word_at m c.args.store.now.words s) s b c.args.source.now c.args.sink.now
    (g.M.Clocked.state c.clock_outside-in-None.new.machine) c.clock_outside-in-None.new.bus c.clock_outside-in-None.new.source c.clock_outside-in-None.new.sink c.clock_outside-in-None.result in
    subst (λ (s : g.M.Clocked.State). Over s c.args.bus.now) same.0 (subst (Over (g.M.Clocked.state c.clock_inside.new.machine)) same.2 c.clock_outside-in-None.ensures.edge)
