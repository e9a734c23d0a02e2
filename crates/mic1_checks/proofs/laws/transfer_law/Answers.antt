use Rattle.mic1_checks.proofs.Transfers.{transfers, transfers_limits, one_end}
use Rattle.mic1_checks.proofs.laws.transfer_law.Goals as goal

pub returns-clause-moves : goal.returns-clause-moves
returns-clause-moves c = transfers

pub returns-clause-limits : goal.returns-clause-limits
returns-clause-limits c = transfers_limits

pub returns-clause-one : goal.returns-clause-one
returns-clause-one c = one_end
