use Rattle.mal_line.proofs.Lining.{line_refused, line_spells, refused_line, spells_line}
use Rattle.mal_line.proofs.Standing.{stands}
use Rattle.mal_line.proofs.laws.reads_what_is_spelled.Goals as goal

pub returns-clause-spelled : goal.returns-clause-spelled
returns-clause-spelled c = λ m ts x. (line_spells m ts x, spells_line m ts x)

pub returns-clause-refused : goal.returns-clause-refused
returns-clause-refused c = λ m ts e. (line_refused m ts e, refused_line m ts e)

pub returns-clause-stands : goal.returns-clause-stands
returns-clause-stands c = λ m ts x s. stands m ts x s
