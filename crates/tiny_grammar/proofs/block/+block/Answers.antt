use Rattle.tiny_grammar.proofs.Common.{◌<◌, [], ◌∷◌, refl, ap, sym, ◌∙◌, arith, Err, err_from_is_err_and}
use Rattle.tiny_draft.specs.declared.token.Kind.TheVariants as kinds
use Rattle.tiny_draft.specs.declared.token.Sign.TheVariants as signs
use Rattle.tiny_grammar.specs.declared.refusal.Refusal.TheVariants as refusals
use Rattle.tiny_grammar.specs.Prelude.{first_line, ABlock, ACond, MaybeElse}
use Rattle.tiny_grammar.proofs.Moving.{frame, frame_stops, then, then_stops, too_deep_at}
use Rattle.tiny_grammar.proofs.Blocks.{block_ends, block_opens, block_unopened, else_absent, else_begins, if_begins, inside, statement_more, statement_stops, while_begins}
use Rattle.tiny_grammar.proofs.block.+block.Goals as goal

-- ---- loops

pub repeated-returns-in_err-test-clause-err : goal.repeated-returns-in_err-test-clause-err
repeated-returns-in_err-test-clause-err t c =
    let p = err_from_is_err_and c.from_residual.result c.from_residual.ensures.1 in
    rw (p.1, p.2) (λ m. then_stops c.in_err-test.field-0.0 (while_begins c.args.levels c.args.tokens.now c.in-Some.inside.now c.first_line-line.result c.in-Some.ensures.some c.first_line-line.ensures)
    (frame_stops c.args.levels (ACond ∷ []) c.in-Some.inside.now c.in_err-test.field-0.0 (ABlock ∷ []) (c.in_err-test.ensures.err m)))

pub repeated-returns-in_err-body-clause-err : goal.repeated-returns-in_err-body-clause-err
repeated-returns-in_err-body-clause-err t c =
    let p = err_from_is_err_and c.from_residual-in_err-body.result c.from_residual-in_err-body.ensures.1 in
    rw (p.1, p.2) (λ m. then_stops c.in_err-body.field-0.0
    (then (while_begins c.args.levels c.args.tokens.now c.in-Some.inside.now c.first_line-line.result c.in-Some.ensures.some c.first_line-line.ensures) (frame (ABlock ∷ []) c.in_ok-test.ensures.ok))
    (c.in_err-body.ensures.err m))

pub repeated-returns-clause-ok : goal.repeated-returns-clause-ok
repeated-returns-clause-ok t c = rw c.in_ok-found.ensures
    (then (while_begins c.args.levels c.args.tokens.now c.in-Some.inside.now c.first_line-line.result c.in-Some.ensures.some c.first_line-line.ensures)
    (then (frame (ABlock ∷ []) c.in_ok-test.ensures.ok) c.in_ok-body.ensures.ok))

-- ---- choices

pub choice-returns-in_err-test-clause-err : goal.choice-returns-in_err-test-clause-err
choice-returns-in_err-test-clause-err t c =
    let p = err_from_is_err_and c.from_residual.result c.from_residual.ensures.1 in
    rw (p.1, p.2) (λ m. then_stops c.in_err-test.field-0.0 (if_begins c.args.levels c.args.tokens.now c.in-Some.inside.now c.first_line-line.result c.in-Some.ensures.some c.first_line-line.ensures)
    (frame_stops c.args.levels (ACond ∷ []) c.in-Some.inside.now c.in_err-test.field-0.0 (ABlock ∷ MaybeElse ∷ []) (c.in_err-test.ensures.err m)))

pub choice-returns-in_err-taken-clause-err : goal.choice-returns-in_err-taken-clause-err
choice-returns-in_err-taken-clause-err t c =
    let e = c.in_err-taken.field-0.0 in
    let p = err_from_is_err_and c.from_residual-in_err-taken.result c.from_residual-in_err-taken.ensures.1 in
    rw (p.1, p.2) (λ m. then_stops e
    (then (if_begins c.args.levels c.args.tokens.now c.in-Some.inside.now c.first_line-line.result c.in-Some.ensures.some c.first_line-line.ensures) (frame (ABlock ∷ MaybeElse ∷ []) c.in_ok-test.ensures.ok))
    (frame_stops c.args.levels (ABlock ∷ []) c.in_ok-test.after_test.now e (MaybeElse ∷ []) (c.in_err-taken.ensures.err m)))

pub choice-returns-in_err-other-clause-err : goal.choice-returns-in_err-other-clause-err
choice-returns-in_err-other-clause-err t c =
    let p = err_from_is_err_and c.from_residual-in_err-other.result c.from_residual-in_err-other.ensures.1 in
    rw (p.1, p.2) (λ m. then_stops c.in_err-other.field-0.0
    (then (if_begins c.args.levels c.args.tokens.now c.in-Some.inside.now c.first_line-line.result c.in-Some.ensures.some c.first_line-line.ensures)
    (then (frame (ABlock ∷ MaybeElse ∷ []) c.in_ok-test.ensures.ok) (frame (MaybeElse ∷ []) c.in_ok-taken.ensures.ok)))
    (c.in_err-other.ensures.err m))

pub choice-returns-clause-ok : goal.choice-returns-clause-ok
choice-returns-clause-ok t c = rw c.in_ok-found.ensures
    (then (if_begins c.args.levels c.args.tokens.now c.in-Some.inside.now c.first_line-line.result c.in-Some.ensures.some c.first_line-line.ensures)
    (then (frame (ABlock ∷ MaybeElse ∷ []) c.in_ok-test.ensures.ok) (then (frame (MaybeElse ∷ []) c.in_ok-taken.ensures.ok) c.in_ok-other.ensures.ok)))

pub otherwise-returns-in_default-clause-ok : goal.otherwise-returns-in_default-clause-ok
otherwise-returns-in_default-clause-ok t c = else_absent c.args.levels c.args.tokens.now (c.in_default.ensures.none refl)

pub otherwise-returns-in_err-other-clause-err : goal.otherwise-returns-in_err-other-clause-err
otherwise-returns-in_err-other-clause-err t c =
    let p = err_from_is_err_and c.from_residual.result c.from_residual.ensures.1 in
    rw (p.1, p.2) (λ m. then_stops c.in_err-other.field-0.0 (else_begins c.args.levels c.args.tokens.now c.in-Some.inside.now c.in-Some.ensures.some) (c.in_err-other.ensures.err m))

pub otherwise-returns-clause-ok : goal.otherwise-returns-clause-ok
otherwise-returns-clause-ok t c = then (else_begins c.args.levels c.args.tokens.now c.in-Some.inside.now c.in-Some.ensures.some) c.in_ok-other.ensures.ok

-- ---- blocks

pub block-returns-in_err-inside-clause-err : goal.block-returns-in_err-inside-clause-err
block-returns-in_err-inside-clause-err t c =
    let p = err_from_is_err_and c.from_residual.result c.from_residual.ensures.1 in
    rw (p.1, p.2) (λ m. block_unopened c.args.levels c.args.tokens.now c.in_err-inside.field-0.0 c.in_err-inside.ensures.err (c.in_err-inside.ensures.none refl))

pub block-returns-then-levels-eq0-clause-err : goal.block-returns-then-levels-eq0-clause-err
block-returns-then-levels-eq0-clause-err t c = λ m ps.
    let s = c.in_ok-inside.ensures.ok in
    too_deep_at c.args.levels ABlock inside (kinds.Of signs.Begin) c.args.tokens.now s.token c.in_ok-inside.inside.now s.split s.is refl refl (omega (arith, c.if-levels-eq0.true)) ps
    ∙ ap (λ x. Err (refusals.TooDeep x)) (sym (c.first_line.ensures ∙ ap first_line s.split))

pub block-loop-outside-init : goal.block-loop-outside-init
block-loop-outside-init t c =
    let z : 0 < c.args.levels = omega (arith, c.if-levels-eq0.false) in
    rw c.new-found.ensures (z, block_opens c.args.levels c.args.tokens.now c.in_ok-inside.inside.now c.in_ok-inside.ensures.ok z)

pub block-loop-outside-preserved : goal.block-loop-outside-preserved
block-loop-outside-preserved t c = (
  c.loop-outside.invariant.0,
  statement_more c.args.levels c.args.tokens.now c.loop-outside.rest.now c.in_ok-one.after.now c.loop-outside.found c.loop-outside.invariant.1 (c.in_default.ensures.none refl)
      c.in_ok-one.one c.push.new.self c.in_ok-one.ensures.ok c.in_ok-push.ensures.ok,
)

pub block-returns-in_err-one-clause-err : goal.block-returns-in_err-one-clause-err
block-returns-in_err-one-clause-err t c =
    let p = err_from_is_err_and c.from_residual-in_err-one.result c.from_residual-in_err-one.ensures.1 in
    rw (p.1, p.2) (λ m. statement_stops c.args.levels c.args.tokens.now c.loop-outside.rest.now c.loop-outside.rest.now c.loop-outside.found c.loop-outside.invariant.1 (c.in_default.ensures.none refl)
    c.in_err-one.field-0.0 (c.in_err-one.ensures.err m))

pub block-returns-in-Some-clause-ok : goal.block-returns-in-Some-clause-ok
block-returns-in-Some-clause-ok t c = rw c.new.ensures
    (block_ends c.args.levels c.args.tokens.now c.loop-outside.rest.now c.in-Some.outside.now _ c.loop-outside.invariant.0 c.loop-outside.invariant.1 c.in-Some.ensures.some)

-- ---- statements

pub statement-returns-in_err-plain-clause-err : goal.statement-returns-in_err-plain-clause-err
statement-returns-in_err-plain-clause-err t c =
    let no_while = rw c.in_default.is at c.in_ok-looped.ensures.ok in
    let no_if = rw c.in_default-2.is at c.in_ok-chosen.ensures.ok in
    let p = err_from_is_err_and c.from_residual-in_err-plain.result c.from_residual-in_err-plain.ensures.1 in
    rw (p.1, p.2) (λ m. c.in_err-plain.ensures.err (record { no_while = no_while; no_if = no_if }) m)
