use Rattle.std.proofs.Common.{◌≡◌, ◌++◌}
use Rattle.std.specs.List.{flat_map}
use Rattle.ijvm_instr.specs.Prelude.{spelling}
use Rattle.ijvm_soak.specs.Prelude.{blocks}
use Rattle.ijvm_soak.proofs.code.push_main.Given as goal

abbrev pub invariant-loop-place : goal.invariant-loop-place
invariant-loop-place l = l.text.items ≡ l.initial.text.items ++ flat_map spelling (blocks l.seed l.place)
