use Rattle.store_placement.specs.Prelude.{IsReadFrom}
use Rattle.store_placement.proofs.store_file.read_words.Given as goal

abbrev pub invariant-loop-address : goal.invariant-loop-address
invariant-loop-address l = IsReadFrom l.bytes l.machine l.address l.store
