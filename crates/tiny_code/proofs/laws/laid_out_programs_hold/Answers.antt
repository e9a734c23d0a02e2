use Rattle.tiny_code.proofs.Methods.{holds}
use Rattle.tiny_code.proofs.laws.laid_out_programs_hold.Goals as goal

pub returns : goal.returns
returns c image p program laid = holds image p program laid
