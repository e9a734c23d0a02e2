use Rattle.micro_terms.proofs.Environments.{exist}
use Rattle.micro_terms.proofs.order.environments_exist.Goals as goal

pub returns : goal.returns
returns c = exist
