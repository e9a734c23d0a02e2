use Rattle.mal_parser.proofs.Outcome.{answers_program, answers_refusal}
use Rattle.mal_parser.proofs.parse.parse_mal.Goals as goal

pub returns-clause-spelled : goal.returns-clause-spelled
returns-clause-spelled c = λ p s.
    answers_program c.args.machine (c.reads_texts.ensures c.args.machine) c.args.text.now c.read.result p c.read.ensures.ok c.read.ensures.err s

pub returns-clause-refused : goal.returns-clause-refused
returns-clause-refused c = λ e s.
    answers_refusal c.args.machine (c.reads_texts.ensures c.args.machine) c.args.text.now c.read.result e c.read.ensures.ok c.read.ensures.err s
