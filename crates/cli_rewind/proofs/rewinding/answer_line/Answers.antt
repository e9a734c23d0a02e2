use Rattle.cli_rewind.proofs.Common.{[], ◌∷◌, plain_left, files_of, FilesState, outside_view, OutsideView, sink_of, source_of, SourceState, Gone, IsCutShort}
use Rattle.cli_rewind.proofs.Common.{Place, place, RewindingView, rewinding, rewinding_view}
use Rattle.cli_rewind.proofs.Answering.{on_err_at, on_ok_at}
use Rattle.cli_rewind.proofs.rewinding.answer_line.Given.{Over}
use Rattle.cli_rewind.proofs.rewinding.answer_line.Goals as goal

-- the session and the outside before the line, and after it

abbrev before : (g : Over) → goal.After-do_line g → FilesState → SourceState → Place (RewindingView g.row.M.Denot)
before g c files console =
    place (rewinding_view c.args.rewind.now c.args.words (plain_left c.args.input.now))
    (outside_view files console (sink_of g.K.Sink.held g.K.Sink.passed g.K.Sink.faults c.outside.inside.out.now)
    (sink_of g.E.Sink.held g.E.Sink.passed g.E.Sink.faults c.outside.inside.err.now))

abbrev seen_after : (g : Over) → goal.After-do_line g → FilesState → SourceState → OutsideView
seen_after g c files console =
    outside_view files console (sink_of g.K.Sink.held g.K.Sink.passed g.K.Sink.faults c.do_line.new.out)
    (sink_of g.E.Sink.held g.E.Sink.passed g.E.Sink.faults c.do_line.new.err)

pub returns-clause-done : goal.returns-clause-done
returns-clause-done g c =
    rw (← c.outside.view_is)
    (on_ok_at
    (λ (files : FilesState) (console : SourceState). Gone (rewinding g.M.Clocked.state g.M.Clocked.meaning) (c.args.line.now ∷ []) (before g c files console)
    (place (rewinding_view c.do_line.new.rewind c.args.words (plain_left c.do_line.new.input)) (seen_after g c files console)))
    c.do_line.result (files_of g.F.Files.contents g.F.Files.faults c.outside.inside.files.now)
    (source_of g.S.Source.left g.S.Source.faults c.outside.inside.console.now) c.do_line.ensures.done)

pub returns-clause-broken : goal.returns-clause-broken
returns-clause-broken g c =
    rw (← c.outside.view_is)
    (on_err_at
    (λ (files : FilesState) (console : SourceState). IsCutShort (rewinding g.M.Clocked.state g.M.Clocked.meaning) c.args.line.now
    (before g c files console) (seen_after g c files console))
    c.do_line.result (files_of g.F.Files.contents g.F.Files.faults c.outside.inside.files.now)
    (source_of g.S.Source.left g.S.Source.faults c.outside.inside.console.now) c.do_line.ensures.broken)
