use Rattle.cli_clocked.proofs.Common.{refl, SinkState, sink_of}
use Rattle.cli_clocked.proofs.Reporting.{says-after, unsaid-after}
use Rattle.cli_clocked.proofs.report.say_after.Goals as goal

pub returns-in-Ok : goal.returns-in-Ok
returns-in-Ok g c = λ old before put cause.
    let mid : SinkState = sink_of g.E.Sink.held g.E.Sink.passed g.E.Sink.faults c.args.err.now in
    let new : SinkState = sink_of g.E.Sink.held g.E.Sink.passed g.E.Sink.faults c.say.new.err in
    let was = rw c.in-Ok.is at put in
    let quiet = rw c.in-Ok.is at cause in
    says-after old mid new before c.args.text.now c.args.code.0 c.say.result.0 was quiet.quiet c.say.ensures

pub returns-in-Err : goal.returns-in-Err
returns-in-Err g c = λ old before put cause.
    let new : SinkState = sink_of g.E.Sink.held g.E.Sink.passed g.E.Sink.faults c.args.err.now in
    unsaid-after old new before c.args.text.now c.args.code.0 _ c.in-Err.field-0
    (rw c.in-Err.is at put) (let failed = rw c.in-Err.is at cause in failed.failed) refl
