use Rattle.tiny_grammar.proofs.Common.{[], ◌∷◌, refl, err_from_is_err_and}
use Rattle.tiny_draft.specs.declared.token.Sign.TheVariants as signs
use Rattle.tiny_grammar.specs.Prelude.{Want, value}
use Rattle.tiny_grammar.proofs.Moving.{frame, frame_stops, then, then_stops}
use Rattle.tiny_grammar.proofs.Exprs.{wanted}
use Rattle.tiny_grammar.proofs.Blocks.{assign_sign}
use Rattle.tiny_grammar.proofs.block.assigned.Goals as goal

pub returns-in_err-after-clause-err : goal.returns-in_err-after-clause-err
returns-in_err-after-clause-err c =
    let p = err_from_is_err_and c.from_residual.result c.from_residual.ensures.1 in
    rw (p.1, p.2) (λ m. frame_stops c.args.levels (Want signs.Assign ∷ []) c.args.tokens.now c.in_err-after.field-0.0 value
    (wanted c.args.levels signs.Assign c.args.tokens.now c.in_err-after.field-0.0 c.in_err-after.ensures.err (c.in_err-after.ensures.none refl)))

pub returns-in_err-given-clause-err : goal.returns-in_err-given-clause-err
returns-in_err-given-clause-err c =
    let p = err_from_is_err_and c.from_residual-in_err-given.result c.from_residual-in_err-given.ensures.1 in
    rw (p.1, p.2) (λ m. then_stops c.in_err-given.field-0.0 (frame value (assign_sign c.args.levels c.args.tokens.now c.in_ok-after.after.now c.in_ok-after.ensures.ok)) (c.in_err-given.ensures.err m))

pub returns-clause-ok : goal.returns-clause-ok
returns-clause-ok c = then (frame value (assign_sign c.args.levels c.args.tokens.now c.in_ok-after.after.now c.in_ok-after.ensures.ok)) c.in_ok-given.ensures.ok
