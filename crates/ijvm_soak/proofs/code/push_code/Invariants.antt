use Rattle.std.proofs.Common.{◌≡◌, ◌++◌, take}
use Rattle.std.specs.List.{flat_map}
use Rattle.ijvm_instr.specs.Prelude.{spelling}
use Rattle.ijvm_soak.proofs.code.push_code.Given as goal

abbrev pub invariant-loop-instr : goal.invariant-loop-instr
invariant-loop-instr l = l.text.items ≡ l.initial.text.items ++ flat_map spelling (take l.instr-index l.code)
