use Rattle.std.proofs.Common.{ℕ, IsTrue, subst}
use Rattle.micro_word.specs.Prelude.{is_canonical}
use Rattle.micro_word.proofs.Coding.{canonical-word, is_the_word, spells}
use Rattle.micro_word.proofs.laws.word_law.Goals as goal

pub returns-clause-canonical : goal.returns-clause-canonical
returns-clause-canonical c =
    λ word. (is_the_word c.args._machine word, λ k. subst (λ (w : ℕ). IsTrue (is_canonical c.args._machine w)) k.2 (canonical-word c.args._machine k.0 k.1))

pub returns-clause-spells : goal.returns-clause-spells
returns-clause-spells c = spells c.args._machine
