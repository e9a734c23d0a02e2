-- The definitions, computed on programs whose images are known.
use Rattle.method_linker.proofs.Common.{◌≡◌, ℕ, pos, negsuc, List, [], ◌∷◌, Some, None, codes, refl, Bipush, Out, Halt, Iload, Iadd, Istore, Ireturn, In, Dup}
use Rattle.method_linker.proofs.Common.{CodeLine, IfIcmpeq, Goto, Operation, ProgramView, pool_of, text_of, code_bytes, layout_of, unit_code}
use Rattle.ijvm_program.specs.declared.line.Operation.TheVariants.{Plain, Constant, Call, To}
use Rattle.ijvm_instr.specs.Prelude.{first_far}

abbrev at_line : ℕ → Operation → CodeLine
at_line line operation = record { line = line; operation = operation }

-- ---- a call of a method that adds its two parameters

abbrev add : ProgramView
add = record {
  constants = record { name = codes "OBJ"; value = 64 } ∷ [];
  main = record {
    name = None;
    parameters = [];
    locals = [];
    lines =
        at_line 5 (Constant 0) ∷ at_line 6 (Plain (Bipush (pos 20))) ∷ at_line 7 (Plain (Bipush (pos 22))) ∷ at_line 8 (Call 0)
        ∷ at_line 9 (Plain Out) ∷ at_line 10 (Plain Halt) ∷ [];
    labels = [];
  };
  methods =
      record {
        name = Some (codes "add");
        parameters = codes "a" ∷ codes "b" ∷ [];
        locals = codes "r" ∷ [];
        lines =
            at_line 16 (Plain (Iload 1)) ∷ at_line 17 (Plain (Iload 2)) ∷ at_line 18 (Plain Iadd) ∷ at_line 19 (Plain (Istore 3))
            ∷ at_line 20 (Plain (Iload 3)) ∷ at_line 21 (Plain Ireturn) ∷ [];
        labels = [];
      }
      ∷ [];
}

text_of_add : text_of (layout_of add) ≡
    0x13 ∷ 0x00 ∷ 0x00 ∷ 0x10 ∷ 0x14 ∷ 0x10 ∷ 0x16 ∷ 0xB6 ∷ 0x00 ∷ 0x01 ∷ 0xFD ∷ 0xFF ∷ 0x00 ∷ 0x03 ∷ 0x00 ∷ 0x01 ∷ 0x15 ∷ 0x01 ∷ 0x15 ∷ 0x02
    ∷ 0x60 ∷ 0x36 ∷ 0x03 ∷ 0x15 ∷ 0x03 ∷ 0xAC ∷ []
unfolding layout_of code_bytes unit_code
text_of_add = refl

pool_of_add : pool_of (layout_of add) ≡ 0x40 ∷ 0x0C ∷ []
unfolding layout_of code_bytes unit_code
pool_of_add = refl

-- ---- an echo up to the end of a line, with a jump on and a jump back

abbrev echo : List CodeLine
echo =
    at_line 2 (Plain In) ∷ at_line 3 (Plain Dup) ∷ at_line 4 (Plain (Bipush (pos 10))) ∷ at_line 5 (To IfIcmpeq 6) ∷ at_line 6 (Plain Out)
    ∷ at_line 7 (To Goto 0) ∷ at_line 8 (Plain Out) ∷ at_line 9 (Plain Halt) ∷ []

bytes_of_echo : code_bytes (unit_code 0 echo) ≡
    0xFC ∷ 0x59 ∷ 0x10 ∷ 0x0A ∷ 0x9F ∷ 0x00 ∷ 0x07 ∷ 0xFD ∷ 0xA7 ∷ 0xFF ∷ 0xF8 ∷ 0xFD ∷ 0xFF ∷ []
unfolding code_bytes unit_code
bytes_of_echo = refl

-- ---- the limits of a distance

limits : first_far ((1, pos 32767) ∷ (2, negsuc 32767) ∷ (3, negsuc 32768) ∷ (4, pos 32768) ∷ []) ≡ Some (3, negsuc 32768)
limits = refl

above : first_far ((1, pos 32768) ∷ []) ≡ Some (1, pos 32768)
above = refl
