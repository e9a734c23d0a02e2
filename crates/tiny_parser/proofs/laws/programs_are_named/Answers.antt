use Rattle.std.proofs.Common.{sym, subst}
use Rattle.tiny_tree.specs.Prelude.{Program, IsNamed}
use Rattle.tiny_parser.proofs.Programs.{resolved_is_named}
use Rattle.tiny_parser.proofs.Words.{written_words}
use Rattle.tiny_parser.proofs.laws.programs_are_named.Goals as goal

pub returns : goal.returns
returns c = λ text p x. subst (λ (q : Program). IsNamed q) (sym x.is) (resolved_is_named x.written x.fits (written_words text x.written x.is_written))
