use Rattle.std.proofs.Common.{ℕ, ◌==◌, ap, arith}
use Rattle.mic2_datapath.proofs.control.loads_mdr.Goals as goal

pub returns : goal.returns
returns c = ap (λ (bit : ℕ). bit == 1) (omega arith)
