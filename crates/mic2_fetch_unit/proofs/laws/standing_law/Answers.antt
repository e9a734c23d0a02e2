use Rattle.mic2_fetch_unit.proofs.Units.{edge_stands, jump_stands}
use Rattle.mic2_fetch_unit.proofs.laws.standing_law.Goals as goal

pub returns-clause-edge : goal.returns-clause-edge
returns-clause-edge c = edge_stands

pub returns-clause-jump : goal.returns-clause-jump
returns-clause-jump c = jump_stands
