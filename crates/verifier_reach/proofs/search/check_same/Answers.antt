use Rattle.verifier_reach.proofs.Common.{◌≡◌, ◌≢◌, ◌∙◌, inr, sym, Some, instr_at}
use Rattle.verifier_reach.proofs.Keeping.{overlap, units_differ}
use Rattle.verifier_reach.proofs.search.check_same.Goals as goal

pub returns-in-Some-clause-err : goal.returns-in-Some-clause-err
returns-in-Some-clause-err c =
    let differ : c.args.kept.unit ≢ c.args.here.unit = units_differ c.args.kept.unit c.args.here.unit c.if-ne.ensures in
    let code : instr_at c.args.image.now.text c.args.at ≡ Some c.in-Some.field-0 = sym c.decode.ensures.is ∙ c.in-Some.is in
    λ z. inr (overlap c.args.image.now z c.args.kept c.args.here c.args.at c.in-Some.field-0 c.requires.kept c.requires.here differ code c.in-Some.ensures.whole.0)
