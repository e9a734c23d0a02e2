use Rattle.mal_parser.proofs.laws.reads_what_is_spelled.Goals as goal

pub returns-clause-one : goal.returns-clause-one
returns-clause-one c = λ m. (c.reads_texts.ensures m).one_program

pub returns-clause-apart : goal.returns-clause-apart
returns-clause-apart c = λ m. (c.reads_texts.ensures m).not_both

pub returns-clause-first : goal.returns-clause-first
returns-clause-first c = λ m. (c.reads_texts.ensures m).one_refusal
