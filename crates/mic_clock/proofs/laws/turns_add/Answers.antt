use Rattle.mic_clock.specs.Prelude.{turns-plus}
use Rattle.mic_clock.proofs.laws.turns_add.Goals as goal

pub returns : goal.returns
returns g c = λ words bound n k r. turns-plus g.M.Clocked.meaning words bound n k r
