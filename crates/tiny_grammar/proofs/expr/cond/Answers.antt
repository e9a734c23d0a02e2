use Rattle.tiny_grammar.proofs.Common.{[], ◌∷◌, refl, ap, sym, err_from_is_err_and, cond_tree, expr_tree}
use Rattle.tiny_grammar.specs.Prelude.{spell_cond, AnExpr, Compare}
use Rattle.tiny_grammar.proofs.Moving.{frame_stops, text_as, then_stops}
use Rattle.tiny_grammar.proofs.Exprs.{cond_begin, cond_compared, cond_reads, cond_uncompared}
use Rattle.tiny_grammar.proofs.expr.cond.Goals as goal

pub returns-in_err-left-clause-err : goal.returns-in_err-left-clause-err
returns-in_err-left-clause-err c =
    let p = err_from_is_err_and c.from_residual.result c.from_residual.ensures.1 in
    rw (p.1, p.2) (λ m. then_stops c.in_err-left.field-0.0 (cond_begin c.args.levels c.args.tokens.now)
    (frame_stops c.args.levels (AnExpr ∷ []) c.args.tokens.now c.in_err-left.field-0.0 (Compare ∷ []) (c.in_err-left.ensures.err m)))

pub returns-in_default-clause-err : goal.returns-in_default-clause-err
returns-in_default-clause-err c = λ m. cond_uncompared c.args.levels c.args.tokens.now c.in_ok-left.after_left.now (expr_tree c.in_ok-left.left) c.in_ok-left.ensures.ok
    c.refused.result c.refused.ensures (c.in_default.ensures.none refl)

pub returns-in_err-right-clause-err : goal.returns-in_err-right-clause-err
returns-in_err-right-clause-err c =
    let p = err_from_is_err_and c.from_residual-in_err-right.result c.from_residual-in_err-right.ensures.1 in
    rw (p.1, p.2) (λ m. then_stops c.in_err-right.field-0.0
    (cond_compared c.args.levels c.args.tokens.now c.in_ok-left.after_left.now (expr_tree c.in_ok-left.left) c.in_ok-left.ensures.ok c.in-Some.sign c.in-Some.after_comparison.now c.in-Some.ensures.some)
    (c.in_err-right.ensures.err m))

pub returns-clause-ok : goal.returns-clause-ok
returns-clause-ok c = text_as (spell_cond (cond_tree c.new.result)) (ap spell_cond (sym c.new.ensures))
    (cond_reads c.args.levels c.args.tokens.now c.in_ok-left.after_left.now (expr_tree c.in_ok-left.left) c.in_ok-left.ensures.ok
    c.in-Some.sign c.in-Some.after_comparison.now c.in_ok-right.last.now (expr_tree c.in_ok-right.right) c.in-Some.ensures.some c.in_ok-right.ensures.ok)
