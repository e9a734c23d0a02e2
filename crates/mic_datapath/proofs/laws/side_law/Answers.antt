use Rattle.mic_datapath.proofs.Sides.{side_passes}
use Rattle.mic_datapath.proofs.laws.side_law.Goals as goal

pub returns : goal.returns
returns c = side_passes
