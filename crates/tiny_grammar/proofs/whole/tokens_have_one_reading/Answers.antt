use Rattle.std.proofs.Common.{sym, ◌∙◌}
use Rattle.tiny_grammar.proofs.Laws.{not_both, one_refusal}
use Rattle.tiny_grammar.proofs.Unique.{one_program}
use Rattle.tiny_grammar.proofs.whole.tokens_have_one_reading.Goals as goal

pub returns-clause-one_program : goal.returns-clause-one_program
returns-clause-one_program c = λ ts p q a b. one_program p q (sym a ∙ b)

pub returns-clause-not_both : goal.returns-clause-not_both
returns-clause-not_both c = λ levels ts e is r. not_both levels ts is.0 e is.1 is.2 r

pub returns-clause-one_refusal : goal.returns-clause-one_refusal
returns-clause-one_refusal c = λ levels ts d e p q. one_refusal levels ts d e p q
