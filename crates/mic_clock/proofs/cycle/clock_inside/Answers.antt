use Rattle.mic_clock.proofs.Common.{ℕ, ap, subst, ◌∙◌, Drive}
use Rattle.mic_clock.specs.Prelude.{IsEdgeInside, buses_in}
use Rattle.mic_clock.proofs.Whole.{at_edge, decoded_there, drove_there, word_there}
use Rattle.mic_clock.proofs.cycle.clock_inside.Goals as goal

pub drive-drive-requires : goal.drive-drive-requires
drive-drive-requires g c = decoded_there g.M.Clocked.meaning (g.M.Clocked.state c.args.machine.now) _ _ _ c.requires c.decoded_at-word.ensures.decoded

pub compute-computed-requires-clause-decoded : goal.compute-computed-requires-clause-decoded
compute-computed-requires-clause-decoded g c = decoded_there g.M.Clocked.meaning (g.M.Clocked.state c.args.machine.now) _ _ _ c.requires c.decoded_at-word.ensures.decoded

pub compute-computed-requires-clause-drive : goal.compute-computed-requires-clause-drive
compute-computed-requires-clause-drive g c =
    drove_there g.M.Clocked.meaning (g.M.Clocked.state c.args.machine.now) _ _ _ c.requires c.decoded_at-word.ensures.decoded _ c.drive-drive.ensures.state _ c.drive-drive.ensures.value

pub edge_inside-requires : goal.edge_inside-requires
edge_inside-requires g c =
    at_edge g.M.Clocked.meaning (g.M.Clocked.state c.args.machine.now) _ _ _ c.requires c.decoded_at-word.ensures.decoded
    _ c.drive-drive.ensures.state _ c.drive-drive.ensures.value _ c.compute-computed.ensures

pub returns-clause-stalled : goal.returns-clause-stalled
returns-clause-stalled g c =
    let m = g.M.Clocked.meaning in
    let s = g.M.Clocked.state c.args.machine.now in
    ap (λ (d : Drive). d.stalled) c.drive-drive.ensures.value
    ∙ ap (λ (w : ℕ). (m.drives w s).stalled) (word_there m s c.args.store.now.words _ _ c.decoded_at-word.ensures.word c.mpc.ensures.value)

pub returns-clause-seen : goal.returns-clause-seen
returns-clause-seen g c =
    let m = g.M.Clocked.meaning in
    let s = g.M.Clocked.state c.args.machine.now in
    let there = word_there m s c.args.store.now.words _ _ c.decoded_at-word.ensures.word c.mpc.ensures.value in
    c.edge_inside.ensures.seen c.if-not-edge_inside.false ∙ (λ i. buses_in m (there i) (c.drive-drive.ensures.state i))

pub returns-clause-edge : goal.returns-clause-edge
returns-clause-edge g c =
    let m = g.M.Clocked.meaning in
    let s = g.M.Clocked.state c.args.machine.now in
    let Inside : ℕ → g.M.Clocked.State → Type 0 = λ w x. IsEdgeInside m w x c.args.bus.now (g.M.Clocked.state c.edge_inside.new.self) c.edge_inside.new.bus in
    subst (λ (w : ℕ). Inside w s) (word_there m s c.args.store.now.words _ _ c.decoded_at-word.ensures.word c.mpc.ensures.value)
    (subst (Inside c.decoded_at-word.result.0) c.drive-drive.ensures.state (c.edge_inside.ensures.tried.edge c.if-not-edge_inside.false))
