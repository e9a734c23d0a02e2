use Rattle.mic_clock.proofs.Reach.{IsReached-compose}
use Rattle.mic_clock.proofs.laws.runs_compose.Goals as goal

pub returns : goal.returns
returns g c = λ left held left' held' left'' held'' bound a b d same first next.
    IsReached-compose g.M.Clocked.state g.M.Clocked.meaning left held left' held' left'' held'' bound a b d same first next
