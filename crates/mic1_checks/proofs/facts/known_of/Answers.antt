use Rattle.mic1_checks.proofs.Common.{List, sym, subst, Range, IsIn}
use Rattle.mic1_checks.proofs.Knowledge.{bytes, long_enough, ranges, size}
use Rattle.mic1_checks.proofs.Operands.{operand_at_top}
use Rattle.mic1_checks.proofs.facts.known_of.Goals as goal

pub returns-clause-value : goal.returns-clause-value
returns-clause-value c e fits i b =
    let n = c.args.n in
    let x = c.args.s.now in
    record {
      knows = record {
        ranges = subst (λ (rs : List Range). IsIn e.word rs) (sym c.in_ok-ranges.ensures) (ranges e n x i b fits.words);
        long = long_enough e n x i b;
        size = size e n x i b;
        bytes = c.in_ok-bytes.ensures.value e (c.in_ok-words.ensures.grows e fits) (bytes e n x i b);
        words = c.in_ok-words.ensures.value e fits (operand_at_top e n x i b);
      };
      words = b.words;
    }
