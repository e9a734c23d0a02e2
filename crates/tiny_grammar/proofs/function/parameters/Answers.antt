use Rattle.tiny_grammar.proofs.Common.{[], refl, err_from_is_err_and}
use Rattle.tiny_draft.specs.declared.token.Kind.TheVariants as kinds
use Rattle.tiny_draft.specs.declared.token.Sign.TheVariants as signs
use Rattle.tiny_grammar.specs.Prelude.{Parameters}
use Rattle.tiny_grammar.proofs.Moving.{closes_at}
use Rattle.tiny_grammar.proofs.Signatures.{more_parameters, parameter_stops, parameters_begin, parameters_close, parameters_unended}
use Rattle.tiny_grammar.proofs.function.parameters.Goals as goal

pub returns-in-Some-clause-ok : goal.returns-in-Some-clause-ok
returns-in-Some-clause-ok c =
    let s = c.in-Some.ensures.some in
    rw c.new-found.ensures (closes_at 63 Parameters [] (kinds.Of signs.Close) c.args.tokens.now s.token c.in-Some.rest.now s.split s.is refl refl)

pub loop-found-init : goal.loop-found-init
loop-found-init c = rw c.new-found.ensures (parameters_begin 63 c.args.tokens.now (c.in_default.ensures.none refl))

pub returns-in_err-parameter-clause-err : goal.returns-in_err-parameter-clause-err
returns-in_err-parameter-clause-err c =
    let p = err_from_is_err_and c.from_residual.result c.from_residual.ensures.1 in
    rw (p.1, p.2) (λ m. parameter_stops 63 c.args.tokens.now c.loop-found.rest.now c.loop-found.rest.now c.loop-found.found (record { name = 0; line = 0 }) c.loop-found.invariant
    c.in_err-parameter.field-0.0 c.in_err-parameter.ensures.err (c.in_err-parameter.ensures.none refl))

pub loop-found-preserved : goal.loop-found-preserved
loop-found-preserved c =
    more_parameters 63 c.args.tokens.now c.loop-found.rest.now c.in_ok-parameter.after.now c.loop-found.found c.in_ok-parameter.parameter c.loop-found.invariant c.in_ok-parameter.ensures.ok
    c.push.new.self c.in_ok-push.ensures.ok c.in-Some-after_sign.more.now c.in-Some-after_sign.ensures.some

pub returns-in_err-rest-clause-err : goal.returns-in_err-rest-clause-err
returns-in_err-rest-clause-err c =
    let p = err_from_is_err_and c.from_residual-in_err-rest.result c.from_residual-in_err-rest.ensures.1 in
    rw (p.1, p.2) (λ m.
    parameters_unended 63 c.args.tokens.now c.loop-found.rest.now c.in_ok-parameter.after.now c.loop-found.found c.in_ok-parameter.parameter c.loop-found.invariant c.in_ok-parameter.ensures.ok
    c.in_err-rest.field-0.0 c.in_err-rest.ensures.err (c.in_default-after_sign.ensures.none refl) (c.in_err-rest.ensures.none refl))

pub returns-in-loop-found-clause-ok : goal.returns-in-loop-found-clause-ok
returns-in-loop-found-clause-ok c =
    parameters_close 63 c.args.tokens.now c.loop-found.rest.now c.in_ok-parameter.after.now c.loop-found.found c.in_ok-parameter.parameter c.loop-found.invariant c.in_ok-parameter.ensures.ok
    c.push.new.self c.in_ok-push.ensures.ok c.in_ok-rest.rest.now c.in_ok-rest.ensures.ok
