use Rattle.mic_clock.proofs.Rules.{IsTurn-turn}
use Rattle.mic_clock.proofs.laws.turn_law.Goals as goal

pub returns : goal.returns
returns g c = λ words r q. IsTurn-turn g.M.Clocked.meaning words r q
