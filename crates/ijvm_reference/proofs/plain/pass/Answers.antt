use Rattle.ijvm_reference.proofs.Common.{Result, refl, sym, subst, AllocError, PlainEnd}
use Rattle.ijvm_reference.specs.Prelude.{program_of, point_at, IsShown, StoppedBy, LedTo}
use Rattle.ijvm_reference.proofs.Running.{bound_ends, cut_led, step_led, step_further}
use Rattle.ijvm_reference.proofs.plain.pass.Goals as goal

pub returns-then-counts-bound-clause-led : goal.returns-then-counts-bound-clause-led
returns-then-counts-bound-clause-led g c = λ told tell rest here. (
  rest,
  here,
  λ given shown. (
    given,
    shown,
    bound_ends told c.args.console.now (g.K.Sink.held c.args.sink.now) c.args.bound c.args.machine c.args.frames.now c.args.counts.now.cycles c.args.counts.now.instructions
        c.args.counts.now rest given c.if-counts-bound.true c.requires.boundary.boundary refl refl,
  ),
)

pub returns-in-Ok-clause-led : goal.returns-in-Ok-clause-led
returns-in-Ok-clause-led g c = λ told tell.
    rw (c.count.ensures.stop, c.count.ensures.counts)
    (step_led c.in-Ok.end told (g.S.Source.left c.args.source.now) (g.K.Sink.held c.args.sink.now) c.args.console.now (g.S.Source.left c.step.new.source) (g.K.Sink.held c.step.new.sink) c.step.new.console
    c.args.bound c.args.machine c.args.frames.now c.step.new.self c.args.counts.now c.cost-cost.result tell c.in-Ok.ensures.kept c.if-counts-bound.false c.requires.boundary.boundary c.cost-cost.ensures.is c.in-Ok.ensures.ok)

pub returns-in-Ok-clause-further : goal.returns-in-Ok-clause-further
returns-in-Ok-clause-further g c =
    rw (c.count.ensures.stop, c.count.ensures.counts)
    (step_further c.in-Ok.end (g.S.Source.left c.args.source.now) (g.K.Sink.held c.args.sink.now) c.args.console.now (g.S.Source.left c.step.new.source) (g.K.Sink.held c.step.new.sink) c.step.new.console
    c.args.bound c.args.machine c.args.frames.now c.step.new.self c.args.counts.now c.cost-cost.result c.if-counts-bound.false c.requires.boundary c.cost-cost.ensures.is c.in-Ok.ensures.ok)

pub returns-in-Err-clause-led : goal.returns-in-Err-clause-led
returns-in-Err-clause-led g c = λ told tell.
    subst (λ (stop : Result PlainEnd AllocError). LedTo (IsShown stop) (g.S.Source.left c.args.source.now) (g.K.Sink.held c.args.sink.now) c.args.console.now (g.S.Source.left c.step.new.source) (g.K.Sink.held c.step.new.sink) c.step.new.console
    (λ u v u' v'. StoppedBy told c.args.console.now (g.K.Sink.held c.step.new.sink) stop (program_of c.args.frames.now c.args.machine) c.args.bound (point_at c.args.frames.now c.args.counts.now.cycles c.args.counts.now.instructions u v)
    c.args.counts.now c.step.new.self u' v')) (sym c.cut_by.ensures)
    (cut_led c.in-Err.error told (g.S.Source.left c.args.source.now) (g.K.Sink.held c.args.sink.now) c.args.console.now (g.S.Source.left c.step.new.source) (g.K.Sink.held c.step.new.sink) c.step.new.console
    c.args.bound c.args.machine c.args.frames.now c.step.new.self c.args.counts.now.cycles c.args.counts.now.instructions c.args.counts.now
    c.in-Err.ensures.err.cut c.in-Err.ensures.err.frames c.if-counts-bound.false c.in-Err.ensures.err.met c.requires.boundary.boundary refl refl)
