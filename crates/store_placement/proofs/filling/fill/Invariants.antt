use Rattle.std.proofs.Common.{◌≡◌}
use Rattle.store_placement.proofs.FillingLemmas.{IsFilledUpTo}
use Rattle.store_placement.proofs.filling.fill.Given as goal

abbrev pub invariant-loop-s : goal.invariant-loop-s
invariant-loop-s l = (l.store.machine ≡ l.program.machine) × IsFilledUpTo l.program l.placement l.store.words l.s
