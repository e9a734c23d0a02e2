-- The state line: a machine's registers by name, in one order, with their values in hexadecimal digits.
use Rattle.std.specs.Prelude.{ℕ, List, [], ◌∷◌, ◌++◌, codes}
use Rattle.mic_clock.specs.Common.{flat_map, hex_text}
use Rattle.mic_clock.specs.declared.registers.Registers.{Registers}
use Rattle.mic_clock.specs.declared.registers.Tail.{Tail}
use Rattle.mic_clock.specs.declared.registers.Tail.TheVariants.{Mbr, Queue}

-- a name, and the digits after it
pub record Row : Type 0 where
  pub name : List ℕ
  pub digits : List ℕ

-- a register of 32 bits
abbrev pub word : List ℕ → ℕ → Row
word name value = record { name = name; digits = hex_text 8 value }

-- two digits for each byte, or a dash where there is none
abbrev pub queue_text : List ℕ → List ℕ
queue_text [] = codes "-"
queue_text (byte ∷ bytes) = flat_map (hex_text 2) (byte ∷ bytes)

-- The table of registers: those of memory and fetching, the fetched bytes, the others, and MPC.

abbrev pub first_rows : Registers → List Row
first_rows r = word (codes "MAR") r.mar ∷ word (codes "MDR") r.mdr ∷ word (codes "PC") r.pc ∷ []

abbrev pub fetched_rows : Tail → List Row
fetched_rows (Mbr byte) = record { name = codes "MBR"; digits = hex_text 2 byte } ∷ []
fetched_rows (Queue bytes imar) = record { name = codes "BYTES"; digits = queue_text bytes.items } ∷ word (codes "IMAR") imar ∷ []

abbrev pub further_rows : Registers → List Row
further_rows r =
    word (codes "SP") r.sp ∷ word (codes "LV") r.lv ∷ word (codes "CPP") r.cpp ∷ word (codes "TOS") r.tos ∷ word (codes "OPC") r.opc ∷ word (codes "H") r.h ∷ []

abbrev pub row_text : Row → List ℕ
row_text row = row.name ++ codes " " ++ row.digits

-- rows, each with a space after it
abbrev pub rows_text : List Row → List ℕ
rows_text = flat_map (λ row. row_text row ++ codes " ")

-- the state line, without a newline
abbrev pub state_line : Registers → List ℕ
state_line r =
    rows_text (first_rows r) ++ rows_text (fetched_rows r.tail) ++ rows_text (further_rows r)
    ++ row_text (record { name = codes "MPC"; digits = hex_text 3 r.mpc })
