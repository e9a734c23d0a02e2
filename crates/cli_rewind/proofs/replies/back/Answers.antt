use Rattle.cli_rewind.proofs.Common.{Bool, ◌∙◌, refl, ap, nat_le, Snapshot, back_text, back, kept}
use Rattle.cli_rewind.proofs.Composing.{said_here, same_board_words}
use Rattle.cli_rewind.proofs.replies.back.Goals as goal

pub returns-clause-leads : goal.returns-clause-leads
returns-clause-leads g c =
    let v = c.args.rewind.now in
    let v' = c.go_back-all.new.rewind in
    let d = v.history.depth in
    λ left held s here.
    let at = c.go_back-all.ensures.goes left held s here in
    let s' = back d c.args.times s in
    let words_are = same_board_words v v' c.go_back-all.ensures.board in
    let said = c.back_text.ensures ∙ ap (λ (all : Bool). back_text all v'.history.here.moment) at.1 in (
      s',
      (
        refl,
        said_here g.M.Clocked.state g.M.Clocked.meaning left held v' s' v.board.store.words
            (λ (x : Snapshot). back_text (nat_le c.args.times (kept d s)) x.moment) c.back_text.result at.0 words_are said,
      ),
      at.0,
    )
