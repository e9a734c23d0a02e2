use Rattle.cli_rewind.proofs.Common.{◌≡◌, ℕ, None, refl, sym, subst, ◌∙◌, arith, plain_left, sink_of, SinkState, GoesForward, scene, Went, on_err_of}
use Rattle.cli_rewind.proofs.Composing.{goes_cut, goes_end, goes_next, none_by, went_still}
use Rattle.cli_rewind.proofs.Stepping.{goes_nowhere}
use Rattle.cli_rewind.proofs.moves.go_forward.Given.{Over}
use Rattle.cli_rewind.proofs.moves.go_forward.Goals as goal

abbrev sink : (g : Over) → g.row.K.Denot → SinkState
sink g k = sink_of g.K.Sink.held g.K.Sink.passed g.K.Sink.faults k

pub cycles-init : goal.cycles-init
cycles-init g c =
    let v = c.args.rewind.now in
    let left = plain_left c.args.input.now in
    let held = g.K.Sink.held c.args.out.now in
    went_still {state = g.M.Clocked.state} {m = g.M.Clocked.meaning} 0 v v left (sink g c.args.out.now) refl refl c.requires.well
    (λ s here. (s, goes_nowhere g.M.Clocked.state g.M.Clocked.meaning left left held held v v s here, here))

pub cycles-preserved : goal.cycles-preserved
cycles-preserved g c =
    goes_next c.cycles._made c.args.times (scene c.args.rewind.now (plain_left c.args.input.now) (sink g c.args.out.now))
    (scene c.cycles.rewind (plain_left c.cycles.input) (sink g c.cycles.out)) (scene c.step.new.rewind (plain_left c.step.new.input) (sink g c.step.new.out))
    c.in_ok-end.end c.cycles.invariant c.in_ok-end.ensures.went (none_by c.in_ok-end.end (sym c.is_some.ensures ∙ c.if-is_some.false))

pub returns-in_err-end-clause-cut : goal.returns-in_err-end-clause-cut
returns-in_err-end-clause-cut g c =
    on_err_of _ c.from_residual.result
    (goes_cut c.cycles._made c.args.times (scene c.args.rewind.now (plain_left c.args.input.now) (sink g c.args.out.now))
    (scene c.cycles.rewind (plain_left c.cycles.input) (sink g c.cycles.out)) (scene c.step.new.rewind (plain_left c.step.new.input) (sink g c.step.new.out))
    None c.cycles.invariant c.in_err-end.ensures.cut c.cycles-test.true)

pub returns-then-is_some-clause-went : goal.returns-then-is_some-clause-went
returns-then-is_some-clause-went g c =
    goes_end c.cycles._made c.args.times (scene c.args.rewind.now (plain_left c.args.input.now) (sink g c.args.out.now))
    (scene c.cycles.rewind (plain_left c.cycles.input) (sink g c.cycles.out)) (scene c.step.new.rewind (plain_left c.step.new.input) (sink g c.step.new.out))
    c.in_ok-end.end c.cycles.invariant c.in_ok-end.ensures.went (sym c.is_some.ensures ∙ c.if-is_some.true) c.cycles-test.true

pub returns-clause-went : goal.returns-clause-went
returns-clause-went g c =
    let over = c.cycles-test.false in
    let most = c.cycles.auto._made-end in
    let all : c.cycles._made ≡ c.args.times = omega (arith, over, most) in
    subst (λ (n : ℕ). Went g.M.Clocked.state g.M.Clocked.meaning n (scene c.args.rewind.now (plain_left c.args.input.now) (sink g c.args.out.now))
    (scene c.cycles.rewind (plain_left c.cycles.input) (sink g c.cycles.out))
    (GoesForward g.M.Clocked.meaning c.args.rewind.now.board.store.words n None)) all c.cycles.invariant
