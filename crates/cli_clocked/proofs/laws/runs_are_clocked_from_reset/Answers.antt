use Rattle.cli_clocked.proofs.Clocked.{clocked_through}
use Rattle.cli_clocked.proofs.laws.runs_are_clocked_from_reset.Goals as goal

pub returns : goal.returns
returns g c = clocked_through g.M.Clocked.state g.M.Clocked.meaning
