use Rattle.tiny_grammar.proofs.Common.{◌≡◌, [], length, refl, ap, sym, ◌∙◌, arith, Err, false, true, ◌==◌, err_from_is_err_and}
use Rattle.tiny_grammar.proofs.Laws.{left_over, nothing_left, refused}
use Rattle.tiny_grammar.proofs.Runs.{walk_shallow}
use Rattle.tiny_grammar.proofs.Signatures.{function_more, function_stops, no_function}
use Rattle.tiny_grammar.proofs.Texts.{start}
use Rattle.tiny_grammar.proofs.whole.parse.Goals as goal

pub loop-after_fn-init : goal.loop-after_fn-init
loop-after_fn-init c = rw c.new-found.ensures (no_function 64 c.args.tokens.now)

pub returns-in_err-one-clause-err : goal.returns-in_err-one-clause-err
returns-in_err-one-clause-err c =
    let p = err_from_is_err_and c.from_residual.result c.from_residual.ensures.1 in
    rw (p.1, p.2) (λ m. refused 64 c.args.tokens.now c.in_err-one.field-0.0
    (function_stops c.args.tokens.now c.loop-after_fn.rest.now c.in-Some.after_fn.now c.loop-after_fn.found c.loop-after_fn.invariant c.in-Some.ensures.some
    c.in_err-one.field-0.0 (c.in_err-one.ensures.err m) []))

pub loop-after_fn-preserved : goal.loop-after_fn-preserved
loop-after_fn-preserved c =
    function_more c.args.tokens.now c.loop-after_fn.rest.now c.in-Some.after_fn.now c.loop-after_fn.found c.loop-after_fn.invariant c.in-Some.ensures.some
    c.in_ok-one.one c.push.new.self c.in_ok-one.after.now c.in_ok-one.ensures.ok c.in_ok-push.ensures.ok

pub returns-then-not-is_empty-clause-err : goal.returns-then-not-is_empty-clause-err
returns-then-not-is_empty-clause-err c = λ m.
    let rest = c.loop-after_fn.rest.now in
    let some : (length rest == 0) ≡ false = grind arith in
    refused 64 c.args.tokens.now c.refused.result
    (c.loop-after_fn.invariant.goes [] ∙ (left_over 64 rest some (c.in_default.ensures.none refl) ∙ ap Err (sym c.refused.ensures)))

pub returns-clause-shallow : goal.returns-clause-shallow
returns-clause-shallow c =
    let rest = c.loop-after_fn.rest.now in
    let none : (length rest == 0) ≡ true = grind arith in
    walk_shallow c.args.tokens.now 64 start (c.loop-after_fn.invariant.goes [] ∙ nothing_left 64 rest none)
