use Rattle.std.proofs.Common.{◌∙◌, ap}
use Rattle.cli_check.proofs.Seconds.{second_found, second_of}
use Rattle.cli_check.proofs.costs.second_in.Goals as goal

pub returns-in-Some : goal.returns-in-Some
returns-in-Some c = ap second_of c.in-Some.ensures ∙ second_found c.args.leaves.now c.args.row c.args.first

pub returns-in-None : goal.returns-in-None
returns-in-None c = ap second_of c.in-None.ensures ∙ second_found c.args.leaves.now c.args.row c.args.first
