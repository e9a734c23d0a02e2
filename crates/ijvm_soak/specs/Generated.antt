-- The program of a seed and a size: main adds to and takes from one sum, block by block, and each block follows from its number and the seed.
use Rattle.std.specs.Prelude.{ℕ, ℤ, zero, suc, pos, ◌+◌, ◌*◌, ◌%◌, if◌then◌else◌, ◌==◌, List, [], ◌∷◌, ◌++◌, length}
use Rattle.std.specs.List.{flat_map}
use Rattle.ijvm_instr.specs.declared.instr.Instr.{Instr}
use Rattle.ijvm_instr.specs.declared.instr.Instr.TheVariants.{Bipush, LdcW, Iload, Istore, Iadd, Isub, Iinc, Iflt, Ireturn, Invokevirtual, Halt}
use Rattle.ijvm_instr.specs.Prelude.{spelling, two_bytes}
use Rattle.ijvm_image.specs.Prelude.{ImageView}

-- the block of a kind, with a number: local 0 is the sum, and the branch leads to the block's end
abbrev pub block : ℕ → ℤ → List Instr
block kind number =
    if kind == 0 then Bipush number ∷ Iload 0 ∷ Iadd ∷ Istore 0 ∷ [] else
    if kind == 1 then Iinc 0 number ∷ [] else
    if kind == 2 then Iload 0 ∷ Bipush number ∷ Isub ∷ Istore 0 ∷ [] else
    if kind == 3 then LdcW 0 ∷ Iload 0 ∷ Invokevirtual 1 ∷ Istore 0 ∷ [] else
    Iload 0 ∷ Iflt (pos 6) ∷ Iinc 0 (pos 1) ∷ []

-- the block at a place, counted from 0
abbrev pub block_at : ℕ → ℕ → List Instr
block_at seed place = block ((seed + place) % 5) (pos ((seed + 3 * place) % 100))

-- this many blocks
abbrev pub blocks : ℕ → ℕ → List Instr
blocks seed zero = []
blocks seed (suc place) = blocks seed place ++ block_at seed place

-- main leaves the sum on the stack
abbrev pub main_code : ℕ → ℕ → List Instr
main_code seed size = blocks seed size ++ Iload 0 ∷ Halt ∷ []

-- the method has an object reference and a number, and gives one more than the number
abbrev pub method_code : List Instr
method_code = Iload 1 ∷ Bipush (pos 1) ∷ Iadd ∷ Ireturn ∷ []

abbrev pub main_text : ℕ → ℕ → List ℕ
main_text seed size = flat_map spelling (main_code seed size)

-- the counts of parameters and of other locals, and the code
abbrev pub method_text : List ℕ
method_text = two_bytes 2 ++ two_bytes 0 ++ flat_map spelling method_code

-- the pool has an object, and the method's entry
unfoldable pub generated : ℕ → ℕ → ImageView
generated seed size = record { text = main_text seed size ++ method_text; pool = 0 ∷ length (main_text seed size) ∷ [] }
