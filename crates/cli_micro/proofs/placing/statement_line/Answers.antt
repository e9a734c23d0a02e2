use Rattle.cli_micro.proofs.Common.{arith, length_fixed}
use Rattle.cli_micro.proofs.placing.statement_line.Goals as goal

pub address-requires : goal.address-requires
address-requires c = omega (arith, c.requires.placement.count, length_fixed c.args.program.now)
