use Rattle.verifier_facts.proofs.Rows.{row_whole}
use Rattle.verifier_facts.proofs.law.instructions_are_whole.Goals as goal

pub returns : goal.returns
returns c = row_whole
