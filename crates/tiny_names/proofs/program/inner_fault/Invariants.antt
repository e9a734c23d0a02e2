use Rattle.std.proofs.Common.{◌≡◌, take}
use Rattle.tiny_names.proofs.program.inner_fault.Given as goal

abbrev pub invariant-loop-name : goal.invariant-loop-name
invariant-loop-name l = l.seen.items ≡ take l.name-index l.name-items
