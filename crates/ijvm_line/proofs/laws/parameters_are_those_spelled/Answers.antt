use Rattle.ijvm_line.proofs.Listing.{names_again}
use Rattle.ijvm_line.proofs.laws.parameters_are_those_spelled.Goals as goal

pub returns : goal.returns
returns c = names_again
