use Rattle.cli_debug.proofs.Common.{refl, plain_left, files_of, outside_view, OutsideView, sink_of, source_of}
use Rattle.cli_debug.proofs.Breaking.{cut_by}
use Rattle.cli_debug.proofs.Standing.{done_by, quits_by}
use Rattle.cli_debug.proofs.debugging.answer_line.Given.{Over}
use Rattle.cli_debug.proofs.debugging.answer_line.Goals as goal

-- what is seen before the line, and after it

abbrev seen : (g : Over) → goal.After-command g → OutsideView
seen g c =
    outside_view (files_of g.F.Files.contents g.F.Files.faults c.outside.inside.files.now) (source_of g.S.Source.left g.S.Source.faults c.outside.inside.console.now)
    (sink_of g.K.Sink.held g.K.Sink.passed g.K.Sink.faults c.outside.inside.out.now) (sink_of g.E.Sink.held g.E.Sink.passed g.E.Sink.faults c.outside.inside.err.now)

abbrev seen_after : (g : Over) → goal.After-command g → OutsideView
seen_after g c =
    outside_view (files_of g.F.Files.contents g.F.Files.faults c.outside.inside.files.now) (source_of g.S.Source.left g.S.Source.faults c.outside.inside.console.now)
    (sink_of g.K.Sink.held g.K.Sink.passed g.K.Sink.faults c.command.new.out) (sink_of g.E.Sink.held g.E.Sink.passed g.E.Sink.faults c.command.new.err)

pub returns-clause-quits : goal.returns-clause-quits
returns-clause-quits g c = quits_by c.args.session.now c.args.line.now c.command.result c.command.ensures.reply

pub returns-clause-done : goal.returns-clause-done
returns-clause-done g c =
    let done = c.command.ensures in
    rw (← c.outside.view_is)
    (done_by g.M.Clocked.state g.M.Clocked.meaning (plain_left c.args.input.now) (plain_left c.command.new.input) (seen g c) (seen_after g c) c.args.session.now c.command.new.self c.args.line.now c.command.result
    done.obeys done.input done.same refl)

pub returns-clause-broken : goal.returns-clause-broken
returns-clause-broken g c =
    let done = c.command.ensures in
    rw (← c.outside.view_is)
    (cut_by g.M.Clocked.state g.M.Clocked.meaning (plain_left c.args.input.now) (plain_left c.command.new.input) (seen g c) (seen_after g c) c.args.session.now c.command.new.self c.args.line.now c.command.result
    done.broken done.input done.keeps refl)
