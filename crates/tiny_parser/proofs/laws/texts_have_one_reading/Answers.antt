use Rattle.tiny_parser.proofs.OneReading.{not_refused, program_is, refusal_is}
use Rattle.tiny_parser.proofs.laws.texts_have_one_reading.Goals as goal

pub returns-clause-one_program : goal.returns-clause-one_program
returns-clause-one_program c = program_is c.lines_have_one_reading.ensures.one c.tokens_have_one_reading.ensures.one_program

pub returns-clause-not_both : goal.returns-clause-not_both
returns-clause-not_both c = not_refused c.lines_have_one_reading.ensures.one c.tokens_have_one_reading.ensures.one_program c.tokens_have_one_reading.ensures.not_both

pub returns-clause-one_refusal : goal.returns-clause-one_refusal
returns-clause-one_refusal c = refusal_is c.lines_have_one_reading.ensures.one c.tokens_have_one_reading.ensures.one_program c.tokens_have_one_reading.ensures.not_both
    c.tokens_have_one_reading.ensures.one_refusal
