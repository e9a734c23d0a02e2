-- The code and the pool of worked programs.
use Rattle.std.proofs.Common.{◌≡◌, refl, ℕ, List, [], ◌∷◌, map}
use Rattle.std.specs.List.{flat_map}
use Rattle.ijvm_instr.specs.Prelude.{spelling}
use Rattle.tiny_tree.specs.declared.tree.Operator.{Operator}
use Rattle.tiny_tree.specs.declared.tree.Operator.TheVariants.{Plus, Minus}
use Rattle.tiny_tree.specs.Prelude.{Term, Number, Variable, Called, Expr, Sum, no_steps, step, Different, Less, Statement, Var, Assign, If, While, Return, Put, else_block, Function, Program, arguments_of, statements_of}
use Rattle.ijvm_text.specs.Prelude.{code_bytes, pool_of}
use Rattle.tiny_code.specs.Prelude.{main_code, method_code, numbers, places_of, layout_of}

abbrev alone : Term → Expr
alone t = Sum t no_steps

abbrev two : Term → Operator → Term → Expr
two a op b = Sum a (step op b no_steps)

abbrev function : ℕ → List Statement → Function
function parameters body = record { parameters = parameters; body = statements_of body }

abbrev add : Function
add = function 2 (Return (two (Variable 0) Plus (Variable 1)) ∷ [])

abbrev countdown_main : Function
countdown_main =
    function 0
    (Var 0 (alone (Number 3))
    ∷ While 1 (Different (alone (Variable 0)) (alone (Number 0)))
    (statements_of
    (Put (alone (Called 0 (arguments_of (alone (Number 64) ∷ alone (Variable 0) ∷ []))))
    ∷ Assign 0 (two (Variable 0) Minus (Number 1))
    ∷ []))
    ∷ [])

-- fn add(a, b) { return a + b; } fn main() { var n = 3; while n != 0 { put add(64, n); n = n - 1; } }
abbrev countdown : Program
countdown = record { functions = add ∷ countdown_main ∷ []; main = 1 }

main_bytes : flat_map spelling (main_code (places_of countdown) countdown_main)
    ≡ 16 ∷ 3 ∷ 54 ∷ 0 ∷ 21 ∷ 0 ∷ 16 ∷ 0 ∷ 159 ∷ 0 ∷ 24 ∷ 19 ∷ 0 ∷ 0 ∷ 16 ∷ 64 ∷ 21 ∷ 0 ∷ 182 ∷ 0 ∷ 1 ∷ 253
    ∷ 21 ∷ 0 ∷ 16 ∷ 1 ∷ 100 ∷ 54 ∷ 0 ∷ 167 ∷ 255 ∷ 231 ∷ 255 ∷ []
main_bytes = refl

add_bytes : flat_map spelling (method_code (places_of countdown) add) ≡ 21 ∷ 1 ∷ 21 ∷ 2 ∷ 96 ∷ 172 ∷ 16 ∷ 0 ∷ 172 ∷ []
add_bytes = refl

pool : pool_of (layout_of countdown countdown_main) ≡ 0 ∷ 33 ∷ []
unfolding code_bytes
pool = refl

-- fn main() { if 300 < 128 { put 127; } else { put 300 + 65535; } } fn f() { return 128 - 5000; }
abbrev many_numbers : Program
many_numbers = record {
  functions =
      function 0
      (If 1 (Less (alone (Number 300)) (alone (Number 128))) (statements_of (Put (alone (Number 127)) ∷ []))
      (else_block (statements_of (Put (two (Number 300) Plus (Number 65535)) ∷ [])))
      ∷ [])
      ∷ function 0 (Return (two (Number 128) Minus (Number 5000)) ∷ [])
      ∷ [];
  main = 0;
}

each_once : numbers many_numbers ≡ 300 ∷ 128 ∷ 65535 ∷ 5000 ∷ []
each_once = refl

after_the_entries : map (places_of many_numbers).constant (300 ∷ 128 ∷ 65535 ∷ 5000 ∷ []) ≡ 2 ∷ 3 ∷ 4 ∷ 5 ∷ []
after_the_entries = refl
