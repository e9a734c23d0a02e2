use Rattle.std.proofs.Common.{◌≡◌, None, Some, IsSome, refl, ap, ◌∙◌, sym, rules}
use Rattle.mic_clock.specs.Prelude.{BoardView, bounded, IsCutByWrite-lost}
use Rattle.mic_clock.proofs.Reach.{by_done, no_err, if_err}
use Rattle.mic_clock.proofs.board.Board.stop_at.Goals as goal

pub returns-clause-write : goal.returns-clause-write
returns-clause-write g c =
    let m = g.M.Clocked.meaning in
    let none : c.args.self.now.end ≡ None = search rules in
    let over : IsSome c.goes_on.new.self.end = search rules in
    let bound_end = c.goes_on.ensures.by none c.if-goes_on.false in
    let board = c.finish.new.self in
    λ left _ p r s.
    by_done c.finish.result c.finish.ensures.ok c.finish.ensures.fault (λ _ _ done. let e = sym done.0 ∙ p in absurd (cc))
    (λ x is failed.
    let view : (A : Type 0) (f : BoardView g.row.M.Denot → A) → f board ≡ f (record c.goes_on.new.self { bus = board.bus; end = board.end }) = λ A f. ap f c.finish.ensures.same.same in
    let shows = c.goes_on.ensures.bounded _ left r s in (
      shows.its_end ∙ bound_end,
      IsCutByWrite-lost g.M.Clocked.state m c.args.self.now.store.words (Some c.args.bound) left left _ _ c.goes_on.new.self board (bounded m (Some c.args.bound) r)
          shows over (λ e. no_err c.finish.result x is (c.finish.ensures.empty e).0) refl (view _ (λ b. g.M.Clocked.state b.machine)) (view _ (λ b. b.counts)) c.finish.ensures.same.memory c.finish.ensures.same.input ((if_err _ c.finish.result x is (c.finish.ensures.err None)).lost failed.0),
    ))
