use Rattle.cli_words.proofs.Once.{given_once}
use Rattle.cli_words.proofs.laws.each_name_is_given_once.Goals as goal

pub returns : goal.returns
returns c = given_once
