use Rattle.verifier_reach.proofs.Common.{◌≡◌, inr, err_from_is_err_and, kept_at, States}
use Rattle.verifier_reach.proofs.Keeping.{wrong_holds}
use Rattle.verifier_reach.proofs.search.Search.visit.Goals as goal

pub returns-in_err-found-clause-err : goal.returns-in_err-found-clause-err
returns-in_err-found-clause-err c =
    let error = c.in_err-found.field-0.0 in
    let states : States c.args.image.now error = λ z.
    inr (wrong_holds c.args.image.now z (kept_at c.args.here c.args.at) error (c.requires.search.reached c.args.at c.args.here c.requires.kept) c.in_err-found.ensures.err) in
    let answer = err_from_is_err_and c.from_residual.result c.from_residual.ensures.1 in
    let same : answer.0 ≡ error = answer.2 in
    rw answer.1 (rw same states)
