-- What the laws of every program's code speak of.
use Rattle.std.specs.Prelude.{◌≡◌, ◌≢◌, ◌≤◌, ℕ, ◌+◌, List, ◌++◌, length, slice_get, Some}
use Rattle.tiny_code.specs.Common.{Instr, code_bytes}
use Rattle.tiny_tree.specs.Prelude.{Function, Program}
use Rattle.tiny_code.specs.Code.{code_size}
use Rattle.tiny_code.specs.Laid.{CodeAt}

-- the function at this position, which is not main
abbrev pub IsOther : Program → ℕ → Function → Type 0
IsOther program f g = (slice_get program.functions f ≡ Some g) × (f ≢ program.main)

-- between these bytes and those the code stands as it is written, where it ends within the addresses
abbrev pub StandsBetween : List ℕ → List ℕ → List Instr → Type 0
StandsBetween before after code =
    length before + code_size code ≤ 65536 → CodeAt (before ++ (code_bytes code ++ after)) (length before) code
