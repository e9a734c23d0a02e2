use Rattle.tiny_runs.proofs.Growing.{grows_with_turns}
use Rattle.tiny_runs.proofs.laws.meanings_grow.Goals as goal

pub returns : goal.returns
returns c = grows_with_turns
