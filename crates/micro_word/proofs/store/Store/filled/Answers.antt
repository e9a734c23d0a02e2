use Rattle.micro_word.proofs.Common.{ℕ, IsTrue, replicate, ap, subst, sym, get_or-replicate, length-replicate}
use Rattle.micro_word.specs.Prelude.{is_canonical}
use Rattle.micro_word.proofs.Decoded.{decoded_everywhere}
use Rattle.micro_word.proofs.store.Store.filled.Goals as goal

pub invariant_of-result : goal.invariant_of-result
invariant_of-result c =
    record {
      canonical = λ address h. subst (λ (w : ℕ). IsTrue (is_canonical c.args.machine w)) (sym (get_or-replicate 512 address c.word-word.result 0 h)) c.word-word.ensures.canonical;
      whole = length-replicate 512 c.lines_of.result;
      decoded = decoded_everywhere c.args.machine c.word-word.result c.lines_of.result c.lines_of.ensures;
    }

pub returns-clause-words : goal.returns-clause-words
returns-clause-words c = ap (λ (w : ℕ). replicate 512 w) c.word-word.ensures.value
