use Rattle.tiny_grammar.proofs.Common.{[], ◌∷◌, refl, err_from_is_err_and, expr_tree}
use Rattle.tiny_draft.specs.declared.token.Sign.TheVariants as signs
use Rattle.tiny_grammar.specs.Prelude.{Want}
use Rattle.tiny_grammar.proofs.Moving.{frame, then_stops}
use Rattle.tiny_grammar.proofs.Exprs.{value_reads, wanted}
use Rattle.tiny_grammar.proofs.expr.value.Goals as goal

pub returns-in_err-rest-clause-err : goal.returns-in_err-rest-clause-err
returns-in_err-rest-clause-err c =
    let p = err_from_is_err_and c.from_residual-in_err-rest.result c.from_residual-in_err-rest.ensures.1 in
    rw (p.1, p.2) (λ m. then_stops c.in_err-rest.field-0.0 (frame (Want signs.Semicolon ∷ []) c.in_ok-given.ensures.ok)
    (wanted c.args.levels signs.Semicolon c.in_ok-given.after.now c.in_err-rest.field-0.0 c.in_err-rest.ensures.err (c.in_err-rest.ensures.none refl)))

pub returns-clause-ok : goal.returns-clause-ok
returns-clause-ok c = value_reads c.args.levels c.args.tokens.now c.in_ok-given.after.now c.in_ok-rest.rest.now (expr_tree c.in_ok-given.given) c.in_ok-given.ensures.ok c.in_ok-rest.ensures.ok
