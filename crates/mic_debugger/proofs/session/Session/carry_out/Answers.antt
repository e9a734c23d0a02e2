use Rattle.mic_debugger.proofs.Common.{subst, on_err_weaker, on_ok_weaker, sink_of, Plan}
use Rattle.mic_debugger.specs.declared.plan.Plan.TheVariants as plans
use Rattle.mic_debugger.specs.Prelude.{IsCarriedOut, IsPlanBroken, Streams, streams, SessionView}
use Rattle.mic_debugger.proofs.Breaking.{shown_in_part, shown_whole}
use Rattle.mic_debugger.proofs.session.Session.carry_out.Given.{Over}
use Rattle.mic_debugger.proofs.session.Session.carry_out.Goals as goal

abbrev between : (g : Over) → g.row.S.Denot → g.row.K.Denot → g.row.E.Denot → Streams
between g input out err =
    streams g.S.Source.left g.S.Source.faults input g.K.Sink.held g.K.Sink.passed g.K.Sink.faults out g.E.Sink.held g.E.Sink.passed g.E.Sink.faults err

pub returns-in-Clock-clause-done : goal.returns-in-Clock-clause-done
returns-in-Clock-clause-done g c =
    let at = between g c.args.input.now c.args.out.now c.args.err.now in
    let at' = between g c.clock.new.input c.clock.new.out c.clock.new.err in
    let plan : Plan = plans.Clock c.in-Clock.until c.in-Clock.times in
    let done = rw c.as_slice.ensures at c.clock.ensures.done in
    rw c.in-Clock.is
    (on_ok_weaker c.clock.result
    (λ by. subst (λ (v : SessionView g.row.M.Denot). IsCarriedOut g.M.Clocked.state g.M.Clocked.meaning v c.clock.new.board at at' plan) c.self.view_is (by c.self.inside.watched)) done)

pub returns-in-Clock-clause-broken : goal.returns-in-Clock-clause-broken
returns-in-Clock-clause-broken g c =
    let at = between g c.args.input.now c.args.out.now c.args.err.now in
    let at' = between g c.clock.new.input c.clock.new.out c.clock.new.err in
    let plan : Plan = plans.Clock c.in-Clock.until c.in-Clock.times in
    let broken = rw c.as_slice.ensures at c.clock.ensures.broken in
    rw c.in-Clock.is
    (on_err_weaker c.clock.result
    (λ by. subst (λ (v : SessionView g.row.M.Denot). IsPlanBroken g.M.Clocked.state g.M.Clocked.meaning v c.clock.new.board at at' plan) c.self.view_is (by c.self.inside.watched)) broken)

pub returns-in-Show-clause-done : goal.returns-in-Show-clause-done
returns-in-Show-clause-done g c =
    rw c.in-Show.is
    (shown_whole g.M.Clocked.state g.M.Clocked.meaning c.args.self.now (between g c.args.input.now c.args.out.now c.args.err.now)
    (sink_of g.E.Sink.held g.E.Sink.passed g.E.Sink.faults c.show.new.err) c.in-Show.shown c.show.result c.show.ensures.puts c.show.ensures.cause)

pub returns-in-Show-clause-broken : goal.returns-in-Show-clause-broken
returns-in-Show-clause-broken g c =
    rw c.in-Show.is
    (shown_in_part g.M.Clocked.state g.M.Clocked.meaning c.args.self.now (between g c.args.input.now c.args.out.now c.args.err.now)
    (sink_of g.E.Sink.held g.E.Sink.passed g.E.Sink.faults c.show.new.err) c.in-Show.shown c.show.result c.show.ensures.puts c.show.ensures.cause)
