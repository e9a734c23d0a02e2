use Rattle.micro_word.proofs.Coding.{canonical-word, statement-word, valid}
use Rattle.micro_word.proofs.laws.statement_law.Goals as goal

pub returns-clause-conditions : goal.returns-clause-conditions
returns-clause-conditions c = valid c.args._machine

pub returns-clause-canonical : goal.returns-clause-canonical
returns-clause-canonical c = canonical-word c.args._machine

pub returns-clause-statement : goal.returns-clause-statement
returns-clause-statement c = statement-word c.args._machine
