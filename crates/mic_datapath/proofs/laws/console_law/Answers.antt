use Rattle.mic_datapath.proofs.Consoles.{takes, gives}
use Rattle.mic_datapath.proofs.laws.console_law.Goals as goal

pub returns : goal.returns
returns c = record { takes = takes; gives = gives }
