use Rattle.verifier_reach.proofs.Common.{refl, arith}
use Rattle.verifier_reach.proofs.Checking.{no_call, underflow}
use Rattle.verifier_reach.proofs.checks.check_depth.Goals as goal

pub returns-in_default-clause-err : goal.returns-in_default-clause-err
returns-in_default-clause-err c =
    let other = no_call c.args.row.flow c.in_default.not-Call in
    (refl, c.args.row, c.requires.row, other, underflow c.args.image.now c.args.row c.args.need c.args.here.depth other c.requires.need (omega arith))
