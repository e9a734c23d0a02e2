-- The header of a method.
use Rattle.std.specs.Prelude.{ℕ, List, ◌++◌}
use Rattle.ijvm_instr.specs.Prelude.{two_bytes}

-- the parameters with the object reference, and the other locals
abbrev pub header : ℕ → ℕ → List ℕ
header params others = two_bytes params ++ two_bytes others
