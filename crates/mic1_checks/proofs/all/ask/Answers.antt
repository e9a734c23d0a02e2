use Rattle.mic1_checks.proofs.Common.{List, sym, subst, Contains, Counts}
use Rattle.mic1_checks.proofs.all.ask.Goals as goal

pub returns-clause-kept : goal.returns-clause-kept
returns-clause-kept c x h = subst (λ (xs : List Counts). Contains xs x) (sym c.note.ensures.leaves) (c.in_ok-finding.ensures.kept x h)
