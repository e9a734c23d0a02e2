use Rattle.ijvm_asm.proofs.laws.a_text_says_one_thing.Goals as goal

pub returns-clause-one_program : goal.returns-clause-one_program
returns-clause-one_program c = c.reads_texts.ensures.one_program

pub returns-clause-one_refusal : goal.returns-clause-one_refusal
returns-clause-one_refusal c = c.reads_texts.ensures.one_refusal

pub returns-clause-not_both : goal.returns-clause-not_both
returns-clause-not_both c = c.reads_texts.ensures.not_both
