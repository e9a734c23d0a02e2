use Rattle.verifier_reach.proofs.Common.{length, arith, inl, inr, ap, Option, None, length-replicate, Kept, Start}
use Rattle.verifier_reach.proofs.Keeping.{empties_few, none_kept}
use Rattle.verifier_reach.proofs.search.begun.Goals as goal

pub arrive-requires-clause-reached : goal.arrive-requires-clause-reached
arrive-requires-clause-reached c = Start

pub arrive-requires-clause-low : goal.arrive-requires-clause-low
arrive-requires-clause-low c =
    omega (arith, empties_few c.in_ok-seen.seen.items, ap length c.in_ok-seen.ensures, length-replicate {A = Option Kept} c.text_len.result None)

pub returns-clause-ok : goal.returns-clause-ok
returns-clause-ok c = record {
  search = c.in_ok-arrive.ensures.search;
  start = c.in_ok-arrive.ensures.here;
  each = λ at k is. elim (c.in_ok-arrive.ensures.grows.fresh at k is) [
    | inl old ↦ absurd (none_kept c.text_len.result at k (rw (← c.in_ok-seen.ensures) old))
    | inr waits ↦ inl waits
  ];
}
