use Rattle.std.proofs.Common.{refl, ◌∙◌}
use Rattle.ijvm_reference.proofs.Running.{passed_none, passed_more, passed_end, program_stays, program_on, source_on, source_stays, sink_on, sink_stays}
use Rattle.ijvm_reference.proofs.plain.drive.Goals as goal

pub run-init : goal.run-init
run-init g c = (
  record {
    passed = λ told tell. passed_none told (g.S.Source.left c.args.source.now) (g.K.Sink.held c.args.sink.now) c.args.console.now c.args.bound c.args.machine c.args.counts.now.cycles c.args.counts.now.instructions c.args.frames.now;
    program = program_stays c.args.frames.now;
    boundary = c.requires.boundary;
  },
  source_stays g.S.Source.left c.args.console.now.ended c.args.source.now,
  sink_stays g.K.Sink.held g.K.Sink.passed _ c.args.sink.now,
  refl,
  refl,
)

pub returns-in-Some-clause-led : goal.returns-in-Some-clause-led
returns-in-Some-clause-led g c = λ told tell.
    passed_end c.in-Some.end told (g.S.Source.left c.args.source.now) (g.K.Sink.held c.args.sink.now) c.args.console.now
    (g.S.Source.left c.run.source) (g.K.Sink.held c.run.sink) c.run.console
    (g.S.Source.left c.pass.new.source) (g.K.Sink.held c.pass.new.sink) c.pass.new.console
    c.args.bound c.args.machine c.args.counts.now.cycles c.args.counts.now.instructions c.run.counts.cycles c.run.counts.instructions
    c.pass.new.counts c.args.frames.now c.run.frames c.pass.new.frames c.run.invariant.0.program (c.run.invariant.0.passed told tell) (c.in-Some.ensures.led told (λ is. c.run.invariant.1.tells_left (tell is)))

pub returns-in-Some-clause-source : goal.returns-in-Some-clause-source
returns-in-Some-clause-source g c = source_on _ _ _ _ _ _ _ c.run.invariant.1 c.pass.ensures.source

pub returns-in-Some-clause-sink : goal.returns-in-Some-clause-sink
returns-in-Some-clause-sink g c = sink_on _ _ _ _ _ _ _ _ (λ e. absurd e) (λ e. cc) c.run.invariant.2 c.in-Some.ensures.sink

pub run-preserved : goal.run-preserved
run-preserved g c = (
  record {
    passed = λ told tell. passed_more told (g.S.Source.left c.args.source.now) (g.K.Sink.held c.args.sink.now) c.args.console.now
        (g.S.Source.left c.run.source) (g.K.Sink.held c.run.sink) c.run.console
        (g.S.Source.left c.pass.new.source) (g.K.Sink.held c.pass.new.sink) c.pass.new.console
        c.args.bound c.args.machine c.args.counts.now.cycles c.args.counts.now.instructions c.run.counts.cycles c.run.counts.instructions
        c.pass.new.counts.cycles c.pass.new.counts.instructions c.args.frames.now c.run.frames c.pass.new.frames c.run.invariant.0.program (c.run.invariant.0.passed told tell)
        (c.in-None.ensures.led told (λ is. c.run.invariant.1.tells_left (tell is)));
    program = program_on c.args.frames.now c.run.frames c.pass.new.frames c.run.invariant.0.program c.pass.ensures.program;
    boundary = c.in-None.ensures.further.next;
  },
  source_on _ _ _ _ _ _ _ c.run.invariant.1 c.pass.ensures.source,
  sink_on _ _ _ _ _ _ _ _ (λ e. e) (λ e. cc) c.run.invariant.2 c.in-None.ensures.sink,
  c.in-None.ensures.cause.source_same (λ e. cc) ∙ c.run.invariant.3,
  c.in-None.ensures.cause.sink_same (λ e. cc) ∙ c.run.invariant.4,
)
