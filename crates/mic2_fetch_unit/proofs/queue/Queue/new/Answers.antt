use Rattle.mic2_fetch_unit.proofs.Common.{refl, bytes_in}
use Rattle.mic2_fetch_unit.proofs.queue.Queue.new.Goals as goal

pub returns : goal.returns
unfolding bytes_in
returns c = refl
