use Rattle.cli_call.proofs.Giving.{mic1_gives, mic2_gives}
use Rattle.cli_call.proofs.laws.machines_only_give.Goals as goal

pub returns-clause-mic1 : goal.returns-clause-mic1
returns-clause-mic1 c = mic1_gives

pub returns-clause-mic2 : goal.returns-clause-mic2
returns-clause-mic2 c = mic2_gives
