use Rattle.tiny_grammar.proofs.Common.{◌-◌, [], ◌∷◌, ◌++◌, refl, ap, sym, ◌∙◌, arith, Err, option_map, append-nil, err_from_is_err_and, term_tree}
use Rattle.tiny_draft.specs.declared.token.Kind.TheVariants as kinds
use Rattle.tiny_draft.specs.declared.token.Sign.TheVariants as signs
use Rattle.tiny_grammar.specs.declared.refusal.Refusal.TheVariants as refusals
use Rattle.tiny_grammar.specs.Prelude.{spell_term, AnExpr, Arguments, ATerm, MaybeCall, Steps, Want, fault, first_kind, first_line}
use Rattle.tiny_grammar.proofs.Beginnings.{call_none, term_none}
use Rattle.tiny_grammar.proofs.Moving.{closes_at, frame, frame_stops, levels_as, opens_at, skip_at, skipping, stays_at, stop_at, stops_as, text_as, then, then_stops, too_deep_at}
use Rattle.tiny_grammar.proofs.Exprs.{closing, group_opens, name_at, number_at, arguments_begin, arguments_close, arguments_unended, expr_term, more_arguments, step_more, step_stops}
use Rattle.tiny_grammar.proofs.expr.+expr.Goals as goal

pub arguments-returns-in-Some-clause-ok : goal.arguments-returns-in-Some-clause-ok
arguments-returns-in-Some-clause-ok t c =
    let s = c.in-Some.ensures.some in
    rw c.new-found.ensures (closes_at c.args.levels Arguments [] (kinds.Of signs.Close) c.args.tokens.now s.token c.in-Some.rest.now s.split s.is refl refl)

pub arguments-loop-found-init : goal.arguments-loop-found-init
arguments-loop-found-init t c = rw c.new-found.ensures (arguments_begin c.args.levels c.args.tokens.now (c.in_default.ensures.none refl))

pub arguments-loop-found-preserved : goal.arguments-loop-found-preserved
arguments-loop-found-preserved t c =
    more_arguments c.args.levels c.args.tokens.now c.loop-found.rest.now c.in_ok-argument.after.now c.loop-found.found c.in_ok-argument.argument c.loop-found.invariant c.in_ok-argument.ensures.ok
    c.push.new.self c.in_ok-push.ensures.ok c.in-Some-after_sign.more.now c.in-Some-after_sign.ensures.some

pub arguments-returns-in_err-rest-clause-err : goal.arguments-returns-in_err-rest-clause-err
arguments-returns-in_err-rest-clause-err t c =
    let p = err_from_is_err_and c.from_residual-in_err-rest.result c.from_residual-in_err-rest.ensures.1 in
    rw (p.1, p.2) (λ m.
    arguments_unended c.args.levels c.args.tokens.now c.loop-found.rest.now c.in_ok-argument.after.now c.loop-found.found c.in_ok-argument.argument c.loop-found.invariant c.in_ok-argument.ensures.ok
    c.in_err-rest.field-0.0 c.in_err-rest.ensures.err (c.in_default-after_sign.ensures.none refl) (c.in_err-rest.ensures.none refl))

pub arguments-returns-in-loop-found-clause-ok : goal.arguments-returns-in-loop-found-clause-ok
arguments-returns-in-loop-found-clause-ok t c =
    arguments_close c.args.levels c.args.tokens.now c.loop-found.rest.now c.in_ok-argument.after.now c.loop-found.found c.in_ok-argument.argument c.loop-found.invariant c.in_ok-argument.ensures.ok
    c.push.new.self c.in_ok-push.ensures.ok c.in_ok-rest.rest.now c.in_ok-rest.ensures.ok

pub call-returns-in_default-clause-ok : goal.call-returns-in_default-clause-ok
call-returns-in_default-clause-ok t c = skip_at c.args.levels MaybeCall c.args.tokens.now refl (call_none (first_kind c.args.tokens.now) (c.in_default.ensures.none refl))

pub call-returns-then-levels-eq0-clause-err : goal.call-returns-then-levels-eq0-clause-err
call-returns-then-levels-eq0-clause-err t c = λ m ps.
    let s = c.in-Some.ensures.some in
    too_deep_at c.args.levels MaybeCall (Arguments ∷ []) (kinds.Of signs.Open) c.args.tokens.now s.token c.in-Some.rest.now s.split s.is refl refl (omega (arith, c.if-levels-eq0.true)) ps
    ∙ ap (λ x. Err (refusals.TooDeep x)) (sym (c.first_line.ensures ∙ ap first_line s.split))

pub call-returns-in_err-found-clause-err : goal.call-returns-in_err-found-clause-err
call-returns-in_err-found-clause-err t c =
    let s = c.in-Some.ensures.some in
    let p = err_from_is_err_and c.from_residual.result c.from_residual.ensures.1 in
    rw (p.1, p.2) (λ m. then_stops c.in_err-found.field-0.0
    (opens_at c.args.levels MaybeCall (Arguments ∷ []) (kinds.Of signs.Open) c.args.tokens.now s.token c.in-Some.rest.now s.split s.is refl refl (omega (arith, c.if-levels-eq0.false)))
    (c.in_err-found.ensures.err m))

pub call-returns-clause-ok : goal.call-returns-clause-ok
call-returns-clause-ok t c =
    let s = c.in-Some.ensures.some in
    levels_as c.args.levels (omega (arith, c.if-levels-eq0.false)) (then
    (opens_at c.args.levels MaybeCall (Arguments ∷ []) (kinds.Of signs.Open) c.args.tokens.now s.token c.in-Some.rest.now s.split s.is refl refl (omega (arith, c.if-levels-eq0.false)))
    c.in_ok-found.ensures.ok)

pub expr-returns-in_err-first-clause-err : goal.expr-returns-in_err-first-clause-err
expr-returns-in_err-first-clause-err t c =
    let p = err_from_is_err_and c.from_residual.result c.from_residual.ensures.1 in
    rw (p.1, p.2) (λ m. then_stops c.in_err-first.field-0.0 (expr_term c.args.levels c.args.tokens.now)
    (frame_stops c.args.levels (ATerm ∷ []) c.args.tokens.now c.in_err-first.field-0.0 (Steps ∷ []) (c.in_err-first.ensures.err m)))

pub expr-loop-operator-init : goal.expr-loop-operator-init
expr-loop-operator-init t c =
    rw c.new-steps.ensures (text_as (spell_term (term_tree c.in_ok-first.first) ++ []) (sym (append-nil (spell_term (term_tree c.in_ok-first.first))))
    (then (expr_term c.args.levels c.args.tokens.now) (frame (Steps ∷ []) c.in_ok-first.ensures.ok)))

pub expr-returns-in_err-term-clause-err : goal.expr-returns-in_err-term-clause-err
expr-returns-in_err-term-clause-err t c =
    let p = err_from_is_err_and c.from_residual-in_err-term.result c.from_residual-in_err-term.ensures.1 in
    rw (p.1, p.2) (λ m. step_stops c.args.levels c.args.tokens.now c.loop-operator.rest.now c.in-Some.after.now c.in-Some.after.now _ c.loop-operator.steps c.in-Some.operator
    c.loop-operator.invariant c.in-Some.ensures.some c.in_err-term.field-0.0 (c.in_err-term.ensures.err m))

pub expr-loop-operator-preserved : goal.expr-loop-operator-preserved
expr-loop-operator-preserved t c =
    step_more c.args.levels c.args.tokens.now c.loop-operator.rest.now c.in-Some.after.now c.in_ok-term.after.now _ c.loop-operator.steps c.in-Some.operator
    c.loop-operator.invariant c.in-Some.ensures.some c.in_ok-term.term c.new.result c.push.new.self c.in_ok-term.ensures.ok c.new.ensures c.in_ok-push.ensures.ok

pub expr-returns-clause-ok : goal.expr-returns-clause-ok
expr-returns-clause-ok t c =
    rw c.in_ok-whole.ensures (skipping Steps [] c.loop-operator.invariant (skip_at c.args.levels Steps c.loop-operator.rest.now refl
    (ap (option_map (λ o. ATerm ∷ Steps ∷ [])) (c.in_default.ensures.none refl))))

pub group-returns-then-levels-eq0-clause-err : goal.group-returns-then-levels-eq0-clause-err
group-returns-then-levels-eq0-clause-err t c = λ m ps.
    let s = c.in-Some.ensures.some in
    too_deep_at c.args.levels ATerm (AnExpr ∷ Want signs.Close ∷ []) (kinds.Of signs.Open) c.args.tokens.now s.token c.in-Some.inside.now s.split s.is refl refl (omega (arith, c.if-levels-eq0.true)) ps
    ∙ ap (λ x. Err (refusals.TooDeep x)) (sym (c.first_line.ensures ∙ ap first_line s.split))

pub group-returns-in_err-inner-clause-err : goal.group-returns-in_err-inner-clause-err
group-returns-in_err-inner-clause-err t c =
    let e = c.in_err-inner.field-0.0 in
    let p = err_from_is_err_and c.from_residual.result c.from_residual.ensures.1 in
    rw (p.1, p.2) (λ m. then_stops e
    (group_opens c.args.levels c.args.tokens.now c.in-Some.inside.now c.in-Some.ensures.some (omega (arith, c.if-levels-eq0.false)))
    (frame_stops (c.args.levels - 1) (AnExpr ∷ []) c.in-Some.inside.now e (Want signs.Close ∷ []) (c.in_err-inner.ensures.err m)))

pub group-returns-in_err-outside-clause-err : goal.group-returns-in_err-outside-clause-err
group-returns-in_err-outside-clause-err t c =
    let e = c.in_err-outside.field-0.0 in
    let after = c.in_ok-inner.after.now in
    let p = err_from_is_err_and c.from_residual-in_err-outside.result c.from_residual-in_err-outside.ensures.1 in
    rw (p.1, p.2) (λ m. then_stops e
    (then (group_opens c.args.levels c.args.tokens.now c.in-Some.inside.now c.in-Some.ensures.some (omega (arith, c.if-levels-eq0.false)))
    (frame (Want signs.Close ∷ []) c.in_ok-inner.ensures.ok))
    (stops_as (c.args.levels - 1) (Want signs.Close ∷ []) after e (fault after) c.in_err-outside.ensures.err
    (stop_at (c.args.levels - 1) (Want signs.Close) after refl (c.in_err-outside.ensures.none refl))))

pub group-returns-clause-ok : goal.group-returns-clause-ok
group-returns-clause-ok t c =
    rw c.in_ok-term.ensures (levels_as c.args.levels (omega (arith, c.if-levels-eq0.false)) (then
    (group_opens c.args.levels c.args.tokens.now c.in-Some.inside.now c.in-Some.ensures.some (omega (arith, c.if-levels-eq0.false)))
    (then (frame (Want signs.Close ∷ []) c.in_ok-inner.ensures.ok)
    (closing (c.args.levels - 1) c.in_ok-inner.after.now c.in_ok-outside.outside.now c.in_ok-outside.ensures.ok))))

pub term-returns-in-Some-after_sign-clause-ok : goal.term-returns-in-Some-after_sign-clause-ok
term-returns-in-Some-after_sign-clause-ok t c =
    let s = c.in-Some-after_sign.ensures.some in
    rw c.get.ensures (stays_at c.args.levels ATerm [] (kinds.Of signs.Get) c.args.tokens.now s.token c.in-Some-after_sign.after_get.now s.split s.is refl refl)

pub term-returns-in-Some-number-clause-ok : goal.term-returns-in-Some-number-clause-ok
term-returns-in-Some-number-clause-ok t c =
    rw c.number-in-Some-number.ensures (number_at c.args.levels c.args.tokens.now c.in-Some-number.value c.in-Some-number.after_number.now c.in-Some-number.ensures.some)

pub term-returns-in_err-word-clause-err : goal.term-returns-in_err-word-clause-err
term-returns-in_err-word-clause-err t c =
    let no_group = rw c.in_default.is at c.in_ok-found.ensures.ok in
    let p = err_from_is_err_and c.from_residual-in_err-word.result c.from_residual-in_err-word.ensures.1 in
    rw (p.1, p.2) (λ m. stops_as c.args.levels (ATerm ∷ []) c.args.tokens.now c.in_err-word.field-0.0 (fault c.args.tokens.now) c.in_err-word.ensures.err
    (stop_at c.args.levels ATerm c.args.tokens.now refl (term_none (first_kind c.args.tokens.now) no_group (c.in_default-after_sign.ensures.none refl)
    (c.in_default-number.ensures.none refl) (c.in_err-word.ensures.none refl))))

pub term-returns-in_err-arguments-clause-err : goal.term-returns-in_err-arguments-clause-err
term-returns-in_err-arguments-clause-err t c =
    let p = err_from_is_err_and c.from_residual-in_err-arguments.result c.from_residual-in_err-arguments.ensures.1 in
    rw (p.1, p.2) (λ m. then_stops c.in_err-arguments.field-0.0
    (name_at c.args.levels ATerm (MaybeCall ∷ []) c.args.tokens.now c.in_ok-word.word c.in_ok-word.after_name.now c.in_ok-word.ensures.ok refl)
    (c.in_err-arguments.ensures.err m))

pub term-returns-in_ok-called-in-Some-2-clause-ok : goal.term-returns-in_ok-called-in-Some-2-clause-ok
term-returns-in_ok-called-in-Some-2-clause-ok t c =
    let found = rw c.in-Some-2.is at c.in_ok-arguments.ensures.ok in
    rw c.in_ok-called-in-Some-2.ensures (then (name_at c.args.levels ATerm (MaybeCall ∷ []) c.args.tokens.now c.in_ok-word.word c.in_ok-word.after_name.now c.in_ok-word.ensures.ok refl) found)

pub term-returns-in-None-clause-ok : goal.term-returns-in-None-clause-ok
term-returns-in-None-clause-ok t c =
    let none = rw c.in-None.is at c.in_ok-arguments.ensures.ok in
    rw c.variable.ensures (skipping MaybeCall []
    (name_at c.args.levels ATerm (MaybeCall ∷ []) c.args.tokens.now c.in_ok-word.word c.in_ok-word.after_name.now c.in_ok-word.ensures.ok refl) none)
