-- The jumps of a code: how far each leads, and the first that leads too far.
use Rattle.std.specs.Prelude.{◌≡◌, ℕ, ℤ, pos, negsuc, int_lt, Bool, ◌||◌, List, [], ◌∷◌, length, find, Option}
use Rattle.std.specs.List.{flat_map, zip}
use Rattle.ijvm_instr.specs.declared.instr.Instr.{Instr}
use Rattle.ijvm_instr.specs.declared.row.Operands.{Operands}
use Rattle.ijvm_instr.specs.declared.row.Operands.TheVariants.{Offset}
use Rattle.ijvm_instr.specs.Instructions.{row_of}

-- how far an instruction with these operands jumps, where it does
abbrev pub distance_in : Operands → List ℤ
distance_in (Offset o) = o ∷ []
distance_in _ = []

-- how far the jumps of a code lead, in its order
abbrev pub distances : List Instr → List ℤ
distances code = flat_map (λ i. distance_in (row_of i).operands) code

-- a jump: its line in the source, and how far it leads, in bytes
abbrev pub Jump : Type 0
Jump = ℕ × ℤ

-- each jump of the code has one of these lines
abbrev pub HasLines : List ℕ → List Instr → Type 0
HasLines lines code = length lines ≡ length (distances code)

-- the jumps of a code, in which they have these lines
abbrev pub jumps_of : List ℕ → List Instr → List Jump
jumps_of lines code = zip lines (distances code)

-- the distance is no signed number of 16 bits
abbrev pub is_far : ℤ → Bool
is_far z = int_lt z (negsuc 32767) || int_lt (pos 32767) z

-- the first jump that leads too far
abbrev pub first_far : List Jump → Option Jump
first_far jumps = find (λ j. is_far j.1) jumps
