use Rattle.mal_line.proofs.Destinations.{loads_named}
use Rattle.mal_line.proofs.laws.named_registers_are_loaded.Goals as goal

pub returns : goal.returns
returns c = loads_named
