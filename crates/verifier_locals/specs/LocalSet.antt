-- Sets of locals, in groups of 64.
use Rattle.std.specs.Prelude.{◌≡◌, ℕ, ◌/◌, ◌%◌}
use Rattle.std.specs.Int.{bit_at}
use Rattle.verifier_locals.specs.declared.local_set.LocalSet.{LocalSet}

-- the local at this place of the group is in the set
abbrev pub Has : LocalSet → ℕ → Type 0
Has set place = bit_at set.bits place ≡ 1

-- this local is one of the group's in the set
abbrev pub IsIn : ℕ → LocalSet → ℕ → Type 0
IsIn group set k = (k / 64 ≡ group) × Has set (k % 64)
