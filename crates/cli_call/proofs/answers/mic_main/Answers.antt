use Rattle.cli_call.proofs.Common.{◌≡◌, ◌∙◌, ap, map, rules, string_bytes, request_of, FilesState, OutsideView, SinkState, SourceState, files_of, outside_view}
use Rattle.cli_call.proofs.Common.{sink_of, source_of, given_back}
use Rattle.cli_call.specs.Prelude.{CallEnds}
use Rattle.cli_call.proofs.answers.mic_main.Goals as goal

-- an outside is what its parts are
whole : (o : OutsideView) (f : FilesState) (s : SourceState) (k e : SinkState) → o.files ≡ f → o.console ≡ s → o.out ≡ k → o.err ≡ e →
    o ≡ outside_view f s k e
whole o f s k e pf ps pk pe =
    ap (λ x. outside_view x o.console o.out o.err) pf ∙ ap (λ x. outside_view f x o.out o.err) ps
    ∙ ap (λ x. outside_view f s x o.err) pk ∙ ap (λ x. outside_view f s k x) pe

pub returns-clause-ends : goal.returns-clause-ends
returns-clause-ends g c =
    let lent = c.new-outside.ensures in
    let back = c.into_parts-files.ensures in
    rw (← whole _ _ _ _ _ lent.files lent.console lent.out lent.err)
    (given_back (λ f s k e. CallEnds (request_of (map string_bytes c.args.words.now)) c.new-outside.result.seen
    (outside_view (files_of g.F.Files.contents g.F.Files.faults f) (source_of g.S.Source.left g.S.Source.faults s)
    (sink_of g.K.Sink.held g.K.Sink.passed g.K.Sink.faults k) (sink_of g.E.Sink.held g.E.Sink.passed g.E.Sink.faults e)) c.answer_words-status.result.0)
    {f' = c.into_parts-files.result.0.now} {s' = c.into_parts-files.result.1.now} {k' = c.into_parts-files.result.2.now} {e' = c.into_parts-files.result.3.now}
    (search rules) (search rules) (search rules) (search rules)
    (rw (whole _ _ _ _ _ back.files back.console back.out back.err) at c.answer_words-status.ensures.does))

pub returns-clause-answer : goal.returns-clause-answer
returns-clause-answer g c = c.each_answer_has_its_cause.ensures _ _ _ _ (returns-clause-ends g c)
