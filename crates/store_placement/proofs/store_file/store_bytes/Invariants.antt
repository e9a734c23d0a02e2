use Rattle.store_placement.proofs.Common.{◌≡◌, ◌++◌, take, flat_map, magic, word_bytes}
use Rattle.store_placement.proofs.store_file.store_bytes.Given as goal

abbrev pub invariant-loop-address : goal.invariant-loop-address
invariant-loop-address l = l.bytes.items ≡ magic l.store.machine ++ flat_map word_bytes (take l.address l.store.words)
