use Rattle.cli_watchers.proofs.Common.{◌≡◌, ◌∙◌, ◌+◌, [], ℕ, List, length, ap, sym, subst, arith, ImageView, AreRowsUpTo}
use Rattle.cli_watchers.proofs.Listed.{more_rows, no_rows}
use Rattle.cli_watchers.proofs.rows.rows_of.Goals as goal

pub loop-at-init : goal.loop-at-init
loop-at-init c =
    let none : c.new-rows.result.items ≡ [] = c.new-rows.ensures.items in
    rw none (no_rows c.args.image.now.image)

pub loop-at-preserved : goal.loop-at-preserved
loop-at-preserved c =
    subst (λ (xs : List ℕ). AreRowsUpTo c.args.image.now.image (c.loop-at.at + 1) xs) (sym c.in_ok-push.ensures.items)
    (more_rows c.args.image.now.image c.loop-at.at c.loop-at.rows.items c.row_at.result c.loop-at.invariant c.row_at.ensures)

pub returns : goal.returns
returns c =
    let is : c.text.result.now ≡ c.args.image.now.image.text = c.text.ensures.is ∙ ap (λ (i : ImageView). i.text) c.image.ensures.is in
    let same : c.loop-at.at ≡ length c.args.image.now.image.text = omega (arith, ap length is) in
    subst (λ (n : ℕ). AreRowsUpTo c.args.image.now.image n c.loop-at.rows.items) same c.loop-at.invariant
