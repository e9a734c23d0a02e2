use Rattle.tiny_grammar.proofs.Common.{[], ◌∷◌, refl, err_from_is_err_and}
use Rattle.tiny_draft.specs.declared.token.Sign.TheVariants as signs
use Rattle.tiny_grammar.specs.Prelude.{AName}
use Rattle.tiny_grammar.proofs.Moving.{frame_stops, then, then_stops}
use Rattle.tiny_grammar.proofs.Exprs.{wanted}
use Rattle.tiny_grammar.proofs.Blocks.{assigning, halt_begins, name_wanted, named_reads, no_statement, put_begins, return_begins, semicolon, statement_named, var_begins, var_named}
use Rattle.tiny_grammar.proofs.block.simple.Goals as goal

pub returns-in_err-shown-clause-err : goal.returns-in_err-shown-clause-err
returns-in_err-shown-clause-err c =
    let p = err_from_is_err_and c.from_residual.result c.from_residual.ensures.1 in
    rw (p.1, p.2) (λ n m. then_stops c.in_err-shown.field-0.0 (put_begins c.args.levels c.args.tokens.now c.in-Some.after_put.now c.in-Some.ensures.some) (c.in_err-shown.ensures.err m))

pub returns-in-Some-clause-ok : goal.returns-in-Some-clause-ok
returns-in-Some-clause-ok c = rw c.put.ensures (then (put_begins c.args.levels c.args.tokens.now c.in-Some.after_put.now c.in-Some.ensures.some) c.in_ok-shown.ensures.ok)

pub returns-in_err-given-clause-err : goal.returns-in_err-given-clause-err
returns-in_err-given-clause-err c =
    let p = err_from_is_err_and c.from_residual-in_err-given.result c.from_residual-in_err-given.ensures.1 in
    rw (p.1, p.2) (λ n m. then_stops c.in_err-given.field-0.0
    (return_begins c.args.levels c.args.tokens.now c.in-Some-after_sign.after_return.now c.first_line-line.result c.in-Some-after_sign.ensures.some c.first_line-line.ensures) (c.in_err-given.ensures.err m))

pub returns-in-Some-after_sign-clause-ok : goal.returns-in-Some-after_sign-clause-ok
returns-in-Some-after_sign-clause-ok c = rw c.give_back.ensures
    (then (return_begins c.args.levels c.args.tokens.now c.in-Some-after_sign.after_return.now c.first_line-line.result c.in-Some-after_sign.ensures.some c.first_line-line.ensures) c.in_ok-given.ensures.ok)

pub returns-in_err-halt_end-clause-err : goal.returns-in_err-halt_end-clause-err
returns-in_err-halt_end-clause-err c =
    let e = c.in_err-halt_end.field-0.0 in
    let p = err_from_is_err_and c.from_residual-in_err-halt_end.result c.from_residual-in_err-halt_end.ensures.1 in
    rw (p.1, p.2) (λ n m. then_stops e (halt_begins c.args.levels c.args.tokens.now c.in-Some-after_sign-2.after_halt.now c.in-Some-after_sign-2.ensures.some)
    (wanted c.args.levels signs.Semicolon c.in-Some-after_sign-2.after_halt.now e c.in_err-halt_end.ensures.err (c.in_err-halt_end.ensures.none refl)))

pub returns-in-Some-after_sign-2-clause-ok : goal.returns-in-Some-after_sign-2-clause-ok
returns-in-Some-after_sign-2-clause-ok c = rw c.halt.ensures
    (then (halt_begins c.args.levels c.args.tokens.now c.in-Some-after_sign-2.after_halt.now c.in-Some-after_sign-2.ensures.some)
    (semicolon c.args.levels c.in-Some-after_sign-2.after_halt.now c.in_ok-halt_end.halt_end.now c.in_ok-halt_end.ensures.ok))

pub returns-in_err-new-clause-err : goal.returns-in_err-new-clause-err
returns-in_err-new-clause-err c =
    let b = c.in-Some-after_sign-3.after_var.now in
    let e = c.in_err-new.field-0.0 in
    let p = err_from_is_err_and c.from_residual-in_err-new.result c.from_residual-in_err-new.ensures.1 in
    rw (p.1, p.2) (λ n m. then_stops e (var_begins c.args.levels c.args.tokens.now b c.in-Some-after_sign-3.ensures.some)
    (frame_stops c.args.levels (AName ∷ []) b e assigning (name_wanted c.args.levels b e c.in_err-new.ensures.err (c.in_err-new.ensures.none refl))))

pub returns-in_err-first-clause-err : goal.returns-in_err-first-clause-err
returns-in_err-first-clause-err c =
    let p = err_from_is_err_and c.from_residual-in_err-first.result c.from_residual-in_err-first.ensures.1 in
    rw (p.1, p.2) (λ n m. then_stops c.in_err-first.field-0.0
    (var_named c.args.levels c.args.tokens.now c.in-Some-after_sign-3.after_var.now c.in_ok-new.after_new.now c.in_ok-new.new c.in-Some-after_sign-3.ensures.some c.in_ok-new.ensures.ok)
    (c.in_err-first.ensures.err m))

pub returns-in-Some-after_sign-3-clause-ok : goal.returns-in-Some-after_sign-3-clause-ok
returns-in-Some-after_sign-3-clause-ok c = rw c.var.ensures
    (then (var_named c.args.levels c.args.tokens.now c.in-Some-after_sign-3.after_var.now c.in_ok-new.after_new.now c.in_ok-new.new c.in-Some-after_sign-3.ensures.some c.in_ok-new.ensures.ok)
    c.in_ok-first.ensures.ok)

pub returns-in_err-old-clause-err : goal.returns-in_err-old-clause-err
returns-in_err-old-clause-err c =
    let p = err_from_is_err_and c.from_residual-in_err-old.result c.from_residual-in_err-old.ensures.1 in
    rw (p.1, p.2) (λ n m. no_statement c.args.levels c.args.tokens.now c.in_err-old.field-0.0 c.in_err-old.ensures.err (c.in_default.ensures.none refl) (c.in_default-after_sign.ensures.none refl)
    (c.in_default-after_sign-2.ensures.none refl) (c.in_default-after_sign-3.ensures.none refl) n (c.in_err-old.ensures.none refl))

pub returns-in_err-found-clause-err : goal.returns-in_err-found-clause-err
returns-in_err-found-clause-err c =
    let p = err_from_is_err_and c.from_residual-in_err-found.result c.from_residual-in_err-found.ensures.1 in
    rw (p.1, p.2) (λ n m. then_stops c.in_err-found.field-0.0 (statement_named c.args.levels c.args.tokens.now c.in_ok-old.after_old.now c.in_ok-old.old c.in_ok-old.ensures.ok) (c.in_err-found.ensures.err m))

pub returns-clause-ok : goal.returns-clause-ok
returns-clause-ok c = named_reads c.args.levels c.args.tokens.now c.in_ok-old.after_old.now c.in_ok-found.found.1.now c.in_ok-old.old c.in_ok-found.found.0 c.in_ok-old.ensures.ok c.in_ok-found.ensures.ok
