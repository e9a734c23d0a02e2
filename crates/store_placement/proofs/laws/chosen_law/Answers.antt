use Rattle.store_placement.proofs.ListedLemmas.{one_chosen, listed_chosen}
use Rattle.store_placement.proofs.laws.chosen_law.Goals as goal

pub returns-clause-one : goal.returns-clause-one
returns-clause-one c = one_chosen

pub returns-clause-listed : goal.returns-clause-listed
returns-clause-listed c = listed_chosen
