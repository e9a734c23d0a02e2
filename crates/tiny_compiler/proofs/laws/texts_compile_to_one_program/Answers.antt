use Rattle.tiny_compiler.proofs.OneProgram.{program_once, program_unrefused, refused_once}
use Rattle.tiny_compiler.proofs.laws.texts_compile_to_one_program.Goals as goal

pub returns-clause-one_program : goal.returns-clause-one_program
returns-clause-one_program c =
    program_once c.texts_have_one_reading.ensures.one_program c.texts_have_one_reading.ensures.not_both c.texts_have_one_reading.ensures.one_refusal

pub returns-clause-not_both : goal.returns-clause-not_both
returns-clause-not_both c =
    program_unrefused c.texts_have_one_reading.ensures.one_program c.texts_have_one_reading.ensures.not_both c.texts_have_one_reading.ensures.one_refusal

pub returns-clause-one_refusal : goal.returns-clause-one_refusal
returns-clause-one_refusal c =
    refused_once c.texts_have_one_reading.ensures.one_program c.texts_have_one_reading.ensures.not_both c.texts_have_one_reading.ensures.one_refusal
