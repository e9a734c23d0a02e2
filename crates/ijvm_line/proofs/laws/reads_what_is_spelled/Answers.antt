use Rattle.ijvm_line.proofs.Lining.{line_refused, line_spells, refused_line, spells_line}
use Rattle.ijvm_line.proofs.laws.reads_what_is_spelled.Goals as goal

pub returns-clause-spelled : goal.returns-clause-spelled
returns-clause-spelled c = λ p ts x. (line_spells p ts x, spells_line p ts x)

pub returns-clause-refused : goal.returns-clause-refused
returns-clause-refused c = λ p ts e. (line_refused p ts e, refused_line p ts e)
