-- When a Mic-1 is ready for an instruction: its opcode is in MBR or on the way there, and a word may be on the way to MDR.
use Rattle.std.specs.Prelude.{◌≡◌, ℕ, true, List, is_some}
use Rattle.mic1_checks.specs.Common.{World, byte_in, arrived, Micro}
use Rattle.mic1_checks.specs.declared.shape.Shape.{Shape}

-- before the instruction at an address: PC there, its byte in MBR or to be there, and MPC at the entry
pub record IsReadyOrArriving (main : ℕ) (words : List ℕ) (at : ℕ) (m : Micro) (w : World) : Type 0 where
  pub pc : m.pc ≡ at
  pub opcode : arrived m.byte m.mbr ≡ byte_in words at
  pub mpc : m.mpc ≡ m.entry
  pub entry : m.entry ≡ main
  pub clocked : m.clocked ≡ true

-- what is under way in a Mic-1
abbrev pub shape_of : Micro → Shape
shape_of m = record { byte = is_some m.byte; word = is_some m.word }
