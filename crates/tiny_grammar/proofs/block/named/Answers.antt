use Rattle.tiny_grammar.proofs.Common.{◌-◌, [], ◌∷◌, map, refl, ap, sym, ◌∙◌, arith, Err, err_from_is_err_and, arguments_of, expr_tree}
use Rattle.tiny_draft.specs.declared.token.Kind.TheVariants as kinds
use Rattle.tiny_draft.specs.declared.token.Sign.TheVariants as signs
use Rattle.tiny_grammar.specs.declared.refusal.Refusal.TheVariants as refusals
use Rattle.tiny_grammar.specs.Prelude.{first_line, AfterName, Arguments, Want}
use Rattle.tiny_grammar.proofs.Moving.{frame_stops, then_stops, too_deep_at}
use Rattle.tiny_grammar.proofs.Exprs.{wanted}
use Rattle.tiny_grammar.proofs.Blocks.{after_name_assigns, assign_says, call_opens, call_read, call_says}
use Rattle.tiny_grammar.proofs.block.named.Goals as goal

pub returns-then-levels-eq0-clause-err : goal.returns-then-levels-eq0-clause-err
returns-then-levels-eq0-clause-err c = λ m ps.
    let s = c.in-Some.ensures.some in
    too_deep_at c.args.levels AfterName (Arguments ∷ Want signs.Semicolon ∷ []) (kinds.Of signs.Open) c.args.tokens.now s.token c.in-Some.inside.now s.split s.is refl refl
    (omega (arith, c.if-levels-eq0.true)) ps
    ∙ ap (λ x. Err (refusals.TooDeep x)) (sym (c.first_line.ensures ∙ ap first_line s.split))

pub returns-in_err-given-clause-err : goal.returns-in_err-given-clause-err
returns-in_err-given-clause-err c =
    let e = c.in_err-given.field-0.0 in
    let p = err_from_is_err_and c.from_residual.result c.from_residual.ensures.1 in
    rw (p.1, p.2) (λ m. then_stops e (call_opens c.args.levels c.args.tokens.now c.in-Some.inside.now c.in-Some.ensures.some (omega (arith, c.if-levels-eq0.false)))
    (frame_stops (c.args.levels - 1) (Arguments ∷ []) c.in-Some.inside.now e (Want signs.Semicolon ∷ []) (c.in_err-given.ensures.err m)))

pub returns-in_err-call_end-clause-err : goal.returns-in_err-call_end-clause-err
returns-in_err-call_end-clause-err c =
    let e = c.in_err-call_end.field-0.0 in
    let p = err_from_is_err_and c.from_residual-in_err-call_end.result c.from_residual-in_err-call_end.ensures.1 in
    rw (p.1, p.2) (λ m. then_stops e
    (call_read c.args.levels c.args.tokens.now c.in-Some.inside.now c.in_ok-given.outside.now (arguments_of (map expr_tree c.in_ok-given.given)) c.in-Some.ensures.some
    (omega (arith, c.if-levels-eq0.false)) c.in_ok-given.ensures.ok)
    (wanted c.args.levels signs.Semicolon c.in_ok-given.outside.now e c.in_err-call_end.ensures.err (c.in_err-call_end.ensures.none refl)))

pub returns-in-Some-clause-ok : goal.returns-in-Some-clause-ok
returns-in-Some-clause-ok c =
    call_says c.args.levels c.args.tokens.now c.in-Some.inside.now c.in_ok-given.outside.now c.in_ok-call_end.call_end.now c.args.word (arguments_of (map expr_tree c.in_ok-given.given))
    c.call.result c.in-Some.ensures.some (omega (arith, c.if-levels-eq0.false)) c.in_ok-given.ensures.ok c.in_ok-call_end.ensures.ok c.call.ensures

pub returns-in_err-later-clause-err : goal.returns-in_err-later-clause-err
returns-in_err-later-clause-err c =
    let p = err_from_is_err_and c.from_residual-in_err-later.result c.from_residual-in_err-later.ensures.1 in
    rw (p.1, p.2) (λ m. then_stops c.in_err-later.field-0.0 (after_name_assigns c.args.levels c.args.tokens.now (c.in_default.ensures.none refl)) (c.in_err-later.ensures.err m))

pub returns-clause-ok : goal.returns-clause-ok
returns-clause-ok c = assign_says c.args.levels c.args.tokens.now c.in_ok-later.assign_end.now c.args.word (expr_tree c.in_ok-later.later) c.assign.result
    (c.in_default.ensures.none refl) c.in_ok-later.ensures.ok c.assign.ensures
