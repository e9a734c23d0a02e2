use Rattle.mic_clock.proofs.Turns.{turns-one_end}
use Rattle.mic_clock.proofs.laws.one_end.Goals as goal

pub returns : goal.returns
returns g c = λ words bound r n k h i. turns-one_end g.M.Clocked.meaning words bound r n k h i
