use Rattle.micro_terms.proofs.Common.{ℕ, ◌+◌, ◌∙◌, ap, List, take_all, sum_by, share, limit_of, side, Part}
use Rattle.micro_terms.proofs.Readings.{share_weight}
use Rattle.micro_terms.proofs.range.side_of.Goals as goal

pub returns-clause-value : goal.returns-clause-value
unfolding side
returns-clause-value c =
    let ps : List Part = c.deref-part-items.result.now in
    let env : ℕ → ℕ = limit_of c.args.table.now c.args.ranges.now c.args.greatest in
    c.loop-part.invariant.0
    ∙ ap (λ qs. share c.args.added c.args.term.now.constant + sum_by (share_weight c.args.added env) qs)
    (take_all c.loop-part.part-index ps c.loop-part-test.false ∙ c.deref-part-items.ensures.value)
