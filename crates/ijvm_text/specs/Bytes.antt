-- The bytes of code: those of its instructions, one after the other.
use Rattle.std.specs.Prelude.{ℕ, List}
use Rattle.std.specs.List.{flat_map}
use Rattle.ijvm_instr.specs.declared.instr.Instr.{Instr}
use Rattle.ijvm_instr.specs.Prelude.{spelling}

-- the instructions as they are written, one after the other
unfoldable pub code_bytes : List Instr → List ℕ
code_bytes code = flat_map spelling code
