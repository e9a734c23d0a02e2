use Rattle.cli_check.proofs.Common.{◌≡◌, ◌∙◌, ap, map, rules, string_bytes, FilesState, OutsideView, SinkState, SourceState, files_of, outside_view, sink_of}
use Rattle.cli_check.proofs.Common.{source_of, given_back, CheckEnds, asked_in}
use Rattle.cli_check.proofs.answers.check_main.Goals as goal

-- an outside is what its parts are
whole : (o : OutsideView) (f : FilesState) (s : SourceState) (k e : SinkState) → o.files ≡ f → o.console ≡ s → o.out ≡ k → o.err ≡ e →
    o ≡ outside_view f s k e
whole o f s k e pf ps pk pe =
    ap (λ x. outside_view x o.console o.out o.err) pf ∙ ap (λ x. outside_view f x o.out o.err) ps
    ∙ ap (λ x. outside_view f s x o.err) pk ∙ ap (λ x. outside_view f s k x) pe

pub returns : goal.returns
returns g c =
    let lent = c.new-outside.ensures in
    let back = c.into_parts-files.ensures in
    rw (← whole _ _ _ _ _ lent.files lent.console lent.out lent.err)
    (given_back (λ f s k e. CheckEnds (asked_in (map string_bytes c.args.words.now)) c.new-outside.result.seen
    (outside_view (files_of g.F.Files.contents g.F.Files.faults f) (source_of g.S.Source.left g.S.Source.faults s)
    (sink_of g.K.Sink.held g.K.Sink.passed g.K.Sink.faults k) (sink_of g.E.Sink.held g.E.Sink.passed g.E.Sink.faults e)) c.answer_words-status.result.0)
    {f' = c.into_parts-files.result.0.now} {s' = c.into_parts-files.result.1.now} {k' = c.into_parts-files.result.2.now} {e' = c.into_parts-files.result.3.now}
    (search rules) (search rules) (search rules) (search rules)
    (rw (whole _ _ _ _ _ back.files back.console back.out back.err) at c.answer_words-status.ensures.does))
