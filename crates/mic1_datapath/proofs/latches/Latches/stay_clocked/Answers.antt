use Rattle.std.proofs.Common.{sym}
use Rattle.mic1_datapath.proofs.latches.Latches.stay_clocked.Goals as goal

pub returns : goal.returns
returns c = λ i. record c.args.self.now { clocked = sym c.requires i }
