use Rattle.mic_clock.proofs.Common.{ℕ, ap, ◌∙◌, Drive}
use Rattle.mic_clock.specs.Prelude.{buses_in}
use Rattle.mic_clock.proofs.Whole.{at_edge, decoded_there, drove_there, over_failed, over_told, word_there}
use Rattle.mic_clock.proofs.cycle.clock_outside.Goals as goal

pub drive-drive-requires : goal.drive-drive-requires
drive-drive-requires g c = decoded_there g.M.Clocked.meaning (g.M.Clocked.state c.args.machine.now) _ _ _ c.requires c.decoded_at-word.ensures.decoded

pub compute-computed-requires-clause-decoded : goal.compute-computed-requires-clause-decoded
compute-computed-requires-clause-decoded g c = decoded_there g.M.Clocked.meaning (g.M.Clocked.state c.args.machine.now) _ _ _ c.requires c.decoded_at-word.ensures.decoded

pub compute-computed-requires-clause-drive : goal.compute-computed-requires-clause-drive
compute-computed-requires-clause-drive g c =
    drove_there g.M.Clocked.meaning (g.M.Clocked.state c.args.machine.now) _ _ _ c.requires c.decoded_at-word.ensures.decoded _ c.drive-drive.ensures.state _ c.drive-drive.ensures.value

pub edge-requires : goal.edge-requires
edge-requires g c =
    at_edge g.M.Clocked.meaning (g.M.Clocked.state c.args.machine.now) _ _ _ c.requires c.decoded_at-word.ensures.decoded
    _ c.drive-drive.ensures.state _ c.drive-drive.ensures.value _ c.compute-computed.ensures

pub returns-clause-stalled : goal.returns-clause-stalled
returns-clause-stalled g c =
    let m = g.M.Clocked.meaning in
    let s = g.M.Clocked.state c.args.machine.now in
    ap (λ (d : Drive). d.stalled) c.drive-drive.ensures.value
    ∙ ap (λ (w : ℕ). (m.drives w s).stalled) (word_there m s c.args.store.now.words _ _ c.decoded_at-word.ensures.word c.mpc.ensures.value)

pub returns-clause-seen : goal.returns-clause-seen
returns-clause-seen g c =
    let m = g.M.Clocked.meaning in
    let s = g.M.Clocked.state c.args.machine.now in
    let there = word_there m s c.args.store.now.words _ _ c.decoded_at-word.ensures.word c.mpc.ensures.value in
    c.in_ok-edge.ensures.seen ∙ (λ i. buses_in m (there i) (c.drive-drive.ensures.state i))

pub returns-clause-edge : goal.returns-clause-edge
returns-clause-edge g c =
    let m = g.M.Clocked.meaning in
    let s = g.M.Clocked.state c.args.machine.now in
    over_told m g.S.Source.left g.K.Sink.held _ _ _ _ (word_there m s c.args.store.now.words _ _ c.decoded_at-word.ensures.word c.mpc.ensures.value)
    c.drive-drive.ensures.state c.args.bus.now c.args.source.now c.args.sink.now
    (g.M.Clocked.state c.edge.new.self) c.edge.new.bus c.edge.new.source c.edge.new.sink _ c.in_ok-edge.ensures.edge

pub returns-in_err-edge-clause-edge : goal.returns-in_err-edge-clause-edge
returns-in_err-edge-clause-edge g c =
    let m = g.M.Clocked.meaning in
    let s = g.M.Clocked.state c.args.machine.now in
    over_failed m g.S.Source.left g.K.Sink.held _ _ _ _ (word_there m s c.args.store.now.words _ _ c.decoded_at-word.ensures.word c.mpc.ensures.value)
    c.drive-drive.ensures.state c.args.bus.now c.args.source.now c.args.sink.now
    (g.M.Clocked.state c.edge.new.self) c.edge.new.bus c.edge.new.source c.edge.new.sink c.in_err-edge.field-0.0 _ c.from_residual.ensures.1 c.in_err-edge.ensures.edge
