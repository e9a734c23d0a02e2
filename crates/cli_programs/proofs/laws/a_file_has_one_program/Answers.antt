use Rattle.cli_programs.proofs.OneProgram.{program_once, program_unrefused}
use Rattle.cli_programs.proofs.laws.a_file_has_one_program.Goals as goal

pub returns-clause-one_program : goal.returns-clause-one_program
returns-clause-one_program c =
    program_once c.a_file_says_one_thing.ensures.one_image c.a_file_says_one_thing.ensures.not_both c.a_text_says_one_thing.ensures.one_program
    c.a_text_says_one_thing.ensures.not_both

pub returns-clause-not_both : goal.returns-clause-not_both
returns-clause-not_both c =
    program_unrefused c.a_file_says_one_thing.ensures.one_image c.a_file_says_one_thing.ensures.not_both c.a_text_says_one_thing.ensures.one_program
    c.a_text_says_one_thing.ensures.not_both
