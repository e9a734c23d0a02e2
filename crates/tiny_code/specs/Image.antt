-- The image of a program's code: its parts are main's code and the other functions, each after its header, and its pool is 0, the
-- functions' addresses, and the numbers.
use Rattle.std.specs.Prelude.{◌≡◌, ℕ, ◌+◌, List, [], ◌∷◌, ◌++◌, map, slice_get, Some}
use Rattle.tiny_code.specs.Common.{jumps_of, header, ImageView, code_bytes, IsImageOf, Layout, Part}
use Rattle.tiny_tree.specs.Prelude.{IsNamed, vars_of, Cond, Equal, Different, Less, Statement, If, While, Else, no_else, else_block, Statements, no_statements, statement, Function, Program}
use Rattle.tiny_code.specs.Code.{Places, main_code, method_code, methods, numbers, places_of}

-- ---- the lines of the jumps, in the order of their addresses: each has that of its `if` or `while`

abbrev pub if_lines : ℕ → Cond → List ℕ → List ℕ → List ℕ
if_lines line (Different a b) taken other = line ∷ (taken ++ line ∷ other)
if_lines line (Equal a b) taken other = line ∷ (other ++ line ∷ taken)
if_lines line (Less a b) taken other = line ∷ (other ++ line ∷ taken)

-- of what leads out of a loop or into it
abbrev pub leave_lines : ℕ → Cond → List ℕ
leave_lines line (Different a b) = line ∷ []
leave_lines line (Equal a b) = line ∷ line ∷ []
leave_lines line (Less a b) = line ∷ line ∷ []

abbrev pub while_lines : ℕ → Cond → List ℕ → List ℕ
while_lines line c body = leave_lines line c ++ (body ++ line ∷ [])

abbrev mutual
  pub statement_lines : Statement → List ℕ
  statement_lines (If line c taken other) = if_lines line c (statements_lines taken) (else_lines other)
  statement_lines (While line c body) = while_lines line c (statements_lines body)
  statement_lines _ = []

  pub statements_lines : Statements → List ℕ
  statements_lines no_statements = []
  statements_lines (statement s rest) = statement_lines s ++ statements_lines rest

  pub else_lines : Else → List ℕ
  else_lines no_else = []
  else_lines (else_block b) = statements_lines b

-- ---- the parts

abbrev pub main_part : Places → Function → Part
main_part p g = record { bytes = code_bytes (main_code p g); jumps = jumps_of (statements_lines g.body) (main_code p g) }

abbrev pub method_part : Places → ℕ × Function → Part
method_part p m =
    record {
      bytes = header (m.1.parameters + 1) (vars_of m.1.body) ++ code_bytes (method_code p m.1);
      jumps = jumps_of (statements_lines m.1.body) (method_code p m.1);
    }

abbrev pub layout_of : Program → Function → Layout
layout_of program main =
    record {
      main = main_part (places_of program) main;
      methods = map (method_part (places_of program)) (methods program);
      before = 0 ∷ [];
      after = numbers program;
    }

-- the code is within the limits, and this is its image
pub record IsCodeOf (program : Program) (image : ImageView) : Type 0 where
  pub main : Function
  pub main_is : slice_get program.functions program.main ≡ Some main
  pub laid : IsImageOf (layout_of program main) image

-- the image is that of some program's code
pub record IsCoded (image : ImageView) : Type 0 where
  pub program : Program
  pub named : IsNamed program
  pub code : IsCodeOf program image
