-- The meaning of worked programs.
use Rattle.std.proofs.Common.{◌≡◌, ℕ, List, [], ◌∷◌}
use Rattle.mic_words.specs.Prelude.{wrap}
use Rattle.tiny_tree.specs.declared.tree.Operator.{Operator}
use Rattle.tiny_tree.specs.declared.tree.Operator.TheVariants.{Plus, Minus}
use Rattle.tiny_tree.specs.Prelude.{Term, Number, Variable, Called, Get, Expr, Sum, no_steps, step, Different, Less, Statement, Var, Assign, If, While, Return, Put, Halt, no_else, Function, Program, arguments_of, statements_of, Ended, Cut, meaning}

abbrev alone : Term → Expr
alone t = Sum t no_steps

abbrev two : Term → Operator → Term → Expr
two a op b = Sum a (step op b no_steps)

abbrev function : ℕ → List Statement → Function
function parameters body = record { parameters = parameters; body = statements_of body }

-- fn main() { put 72; }
abbrev greeting : Program
greeting = record { functions = function 0 (Put (alone (Number 72)) ∷ []) ∷ []; main = 0 }

-- fn add(a, b) { return a + b; } fn main() { var n = 3; while n != 0 { put add(64, n); n = n - 1; } }
abbrev countdown : Program
countdown = record {
  functions =
      function 2 (Return (two (Variable 0) Plus (Variable 1)) ∷ [])
      ∷ function 0
      (Var 0 (alone (Number 3))
      ∷ While 1 (Different (alone (Variable 0)) (alone (Number 0)))
      (statements_of
      (Put (alone (Called 0 (arguments_of (alone (Number 64) ∷ alone (Variable 0) ∷ []))))
      ∷ Assign 0 (two (Variable 0) Minus (Number 1))
      ∷ []))
      ∷ [])
      ∷ [];
  main = 1;
}

-- fn difference(a, b) { if a < b { return b - a; } return a - b; } fn main() { put difference(get, get); put 300; halt; put 1; }
abbrev two_bytes : Program
two_bytes = record {
  functions =
      function 2
      (If 1 (Less (alone (Variable 0)) (alone (Variable 1))) (statements_of (Return (two (Variable 1) Minus (Variable 0)) ∷ [])) no_else
      ∷ Return (two (Variable 0) Minus (Variable 1))
      ∷ [])
      ∷ function 0
      (Put (alone (Called 0 (arguments_of (alone Get ∷ alone Get ∷ []))))
      ∷ Put (alone (Number 300))
      ∷ Halt
      ∷ Put (alone (Number 1))
      ∷ [])
      ∷ [];
  main = 1;
}

-- the last three: the first argument takes the first byte
worked : (meaning greeting [] 0 ≡ Ended (72 ∷ []) [])
    × (meaning countdown (1 ∷ []) 7 ≡ Ended (67 ∷ 66 ∷ 65 ∷ []) (1 ∷ []))
    × (meaning countdown [] 6 ≡ Cut (67 ∷ 66 ∷ 65 ∷ []))
    × (meaning countdown [] 3 ≡ Cut (67 ∷ []))
    × (meaning countdown [] 0 ≡ Cut [])
    × (meaning two_bytes (5 ∷ 12 ∷ 9 ∷ []) 1 ≡ Ended (7 ∷ 44 ∷ []) (9 ∷ []))
    × (meaning two_bytes (12 ∷ []) 1 ≡ Ended (12 ∷ 44 ∷ []) [])
    × (meaning two_bytes (5 ∷ 12 ∷ 9 ∷ []) 0 ≡ Cut [])
unfolding wrap
worked = assumption
