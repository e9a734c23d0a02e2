-- The rows of a profile: one for each instruction, in the table's order, and one for what is none.
use Prim.Native.String.{String as Literal}
use Rattle.std.specs.Prelude.{◌≡◌, ℕ, List, [], ◌∷◌, Option, Some, None, codes, length, map, slice_get, unwrap_or}
use Rattle.cli_watchers.specs.Common.{position, bytes_eq, ImageView, Instr, mnemonic_of}
use Rattle.cli_watchers.specs.Naming.{IsReached}

-- the row of what is no reached instruction
abbrev pub other : ℕ
other = 26

-- the names of the rows, in the order of their lines
abbrev row_literals : List Literal
row_literals =
    "NOP" ∷ "BIPUSH" ∷ "LDC_W" ∷ "ILOAD" ∷ "ISTORE" ∷ "POP" ∷ "DUP" ∷ "SWAP" ∷ "IADD" ∷ "ISUB" ∷ "IAND" ∷ "IINC" ∷ "IFEQ" ∷ "IFLT" ∷ "IF_ICMPEQ" ∷ "GOTO"
    ∷ "IRETURN" ∷ "IOR" ∷ "INVOKEVIRTUAL" ∷ "WIDE ILOAD" ∷ "WIDE ISTORE" ∷ "WIDE IINC" ∷ "IN" ∷ "OUT" ∷ "ERR" ∷ "HALT" ∷ []

abbrev pub row_names : List (List ℕ)
row_names = map codes row_literals

-- the place of a name among them
abbrev pub place_of : List ℕ → Option ℕ
place_of text = position (λ name. bytes_eq name text) row_names

-- the place of an instruction's row
abbrev pub row_number : Instr → ℕ
row_number i = unwrap_or (place_of (mnemonic_of i)) other

-- the name of a row
abbrev pub row_name : ℕ → List ℕ
row_name row = unwrap_or (slice_get row_names row) (codes "?")

abbrev pub row_in : Option Instr → ℕ
row_in (Some i) = row_number i
row_in None = other

-- the row of the reached instruction that begins at an address
pub record IsRowAt (image : ImageView) (at row : ℕ) : Type 0 where
  pub instr : Option Instr
  pub reached : IsReached image at instr
  pub is : row ≡ row_in instr

-- the rows of this many addresses, from the first on
pub record AreRowsUpTo (image : ImageView) (count : ℕ) (rows : List ℕ) : Type 0 where
  pub long : length rows ≡ count
  pub each : (at row : ℕ) → slice_get rows at ≡ Some row → IsRowAt image at row
