-- The boundary from which symbolic runs start: its numbers, and the moment that it stands for.
use Rattle.std.specs.Prelude.{◌≡◌, ℕ, true, List, [], ◌∷◌, Some, None, if◌then◌else◌, slice_get}
use Rattle.mic1_checks.specs.Common.{signed_byte, Micro, Moment, Environment, Node, Free, Range, Symbols, micro_of}
use Rattle.mic1_checks.specs.declared.shape.Shape.{Shape}

-- the numbers of the registers, and the words of those that are known
pub record IsStart (e : Environment) (opcode : ℕ) (s : Symbols) : Type 0 where
  pub mar : s.mar ≡ 0
  pub mdr : s.mdr ≡ 1
  pub pc : s.pc ≡ 2
  pub sp : s.sp ≡ 3
  pub lv : s.lv ≡ 4
  pub tos : s.tos ≡ 5
  pub opc : s.opc ≡ 6
  pub h : s.h ≡ 7
  pub word : s.word ≡ None
  pub byte : s.byte ≡ None
  pub cpp : e.word s.cpp ≡ 0x4000
  pub plain : e.word s.mbr.plain ≡ opcode
  pub signed : e.word s.mbr.signed ≡ signed_byte opcode

-- the first eleven numbers are free
pub record HasRegisters (table : List Node) : Type 0 where
  pub mar : slice_get table 0 ≡ Some Free
  pub mdr : slice_get table 1 ≡ Some Free
  pub pc : slice_get table 2 ≡ Some Free
  pub sp : slice_get table 3 ≡ Some Free
  pub lv : slice_get table 4 ≡ Some Free
  pub tos : slice_get table 5 ≡ Some Free
  pub opc : slice_get table 6 ≡ Some Free
  pub h : slice_get table 7 ≡ Some Free
  pub mbr : slice_get table 8 ≡ Some Free
  pub sign : slice_get table 9 ≡ Some Free
  pub word : slice_get table 10 ≡ Some Free

-- the symbols with what is under way in a machine of this shape, and with any byte in MBR if the opcode is still to come
abbrev pub shaped_symbols : Shape → Symbols → Symbols
shaped_symbols shape s =
    record s {
      mbr = if shape.byte then record { plain = 8; signed = 9 } else s.mbr;
      word = if shape.word then Some 10 else None;
      byte = if shape.byte then Some s.mbr else None;
    }

-- where PC, SP and LV are at each boundary of an accepted image's run: in the text, and in the stack or just below it
abbrev pub register_ranges : List Range
register_ranges =
    record { low = 0; high = 0xFFFFFFFF } ∷ record { low = 0; high = 0xFFFFFFFF } ∷ record { low = 0; high = 0xFFFF } ∷
    record { low = 0x7FFF; high = 0x1FFFF } ∷ record { low = 0x8000; high = 0x20000 } ∷ []

-- the moment that the symbols stand for at an entry
abbrev pub start_moment : Environment → ℕ → ℕ → Symbols → Moment Micro
start_moment e stalls entry s = record { state = micro_of e.word entry true (record s { mpc = entry }); world = e.start; stalls = stalls }
