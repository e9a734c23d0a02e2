use Rattle.tiny_grammar.proofs.Common.{ap, refl, sym, err_from_is_err_and, block_tree, function_tree}
use Rattle.tiny_grammar.specs.Prelude.{spell_signature}
use Rattle.tiny_grammar.proofs.Moving.{text_as}
use Rattle.tiny_grammar.proofs.Signatures.{body_refused, parameters_refused, signature_reads, unnamed, unopened}
use Rattle.tiny_grammar.proofs.function.function.Goals as goal

pub returns-in_err-called-clause-err : goal.returns-in_err-called-clause-err
returns-in_err-called-clause-err c =
    let p = err_from_is_err_and c.from_residual.result c.from_residual.ensures.1 in
    rw (p.1, p.2) (λ m. unnamed c.args.tokens.now c.in_err-called.field-0.0 c.in_err-called.ensures.err (c.in_err-called.ensures.none refl))

pub returns-in_err-inside-clause-err : goal.returns-in_err-inside-clause-err
returns-in_err-inside-clause-err c =
    let p = err_from_is_err_and c.from_residual-in_err-inside.result c.from_residual-in_err-inside.ensures.1 in
    rw (p.1, p.2) (λ m. unopened c.args.tokens.now c.in_ok-called.after_name.now c.in_ok-called.called c.in_ok-called.ensures.ok
    c.in_err-inside.field-0.0 c.in_err-inside.ensures.err (c.in_err-inside.ensures.none refl))

pub returns-in_err-taken-clause-err : goal.returns-in_err-taken-clause-err
returns-in_err-taken-clause-err c =
    let p = err_from_is_err_and c.from_residual-in_err-taken.result c.from_residual-in_err-taken.ensures.1 in
    rw (p.1, p.2) (λ m. parameters_refused c.args.tokens.now c.in_ok-called.after_name.now c.in_ok-called.called c.in_ok-called.ensures.ok
    c.in_ok-inside.inside.now c.in_ok-inside.ensures.ok c.in_err-taken.field-0.0 (c.in_err-taken.ensures.err m))

pub returns-in_err-body-clause-err : goal.returns-in_err-body-clause-err
returns-in_err-body-clause-err c =
    let p = err_from_is_err_and c.from_residual-in_err-body.result c.from_residual-in_err-body.ensures.1 in
    rw (p.1, p.2) (λ m. body_refused c.args.tokens.now c.in_ok-called.after_name.now c.in_ok-called.called c.in_ok-called.ensures.ok
    c.in_ok-inside.inside.now c.in_ok-inside.ensures.ok c.in_ok-taken.taken c.in_ok-taken.outside.now c.in_ok-taken.ensures.ok c.in_err-body.field-0.0 (c.in_err-body.ensures.err m))

pub returns-clause-ok : goal.returns-clause-ok
returns-clause-ok c = text_as (spell_signature (function_tree c.new.result)) (ap spell_signature (sym c.new.ensures))
    (signature_reads c.args.tokens.now c.in_ok-called.after_name.now c.in_ok-called.called c.in_ok-called.ensures.ok
    c.in_ok-inside.inside.now c.in_ok-inside.ensures.ok c.in_ok-taken.taken c.in_ok-taken.outside.now c.in_ok-taken.ensures.ok
    (block_tree c.in_ok-body.body) c.in_ok-body.last.now c.in_ok-body.ensures.ok)
