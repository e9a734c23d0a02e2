-- Each jump of a program's code has its line, and its expressions have no jumps.
use Rattle.std.proofs.Common.{◌≡◌, ℕ, ℤ, pos, neg_ℤ, Bool, true, false, List, [], ◌∷◌, ◌++◌, length, refl, ap, arith, length-append, ◌+◌}
use Rattle.std.specs.Prelude.{if◌then◌else◌, nat_le}
use Rattle.tiny_code.specs.Common.{flat_map-append, Instr, row_of, HasLines, distance_in, distances, Operator, Plus}
use Rattle.ijvm_instr.specs.declared.instr.Instr.TheVariants.{Bipush, LdcW, Istore, Pop, Isub, Iflt}
use Rattle.ijvm_instr.specs.declared.instr.Instr.TheVariants.{IfIcmpeq, Goto, Ireturn, Invokevirtual, Out, Halt as HaltCode}
use Rattle.tiny_tree.specs.Prelude.{Term, Number, Variable, Called, Get, Group, Expr, Sum, Steps, no_steps, step, Arguments, no_arguments, argument, Cond, Equal, Different, Less, Statement, Var, Assign, Calls, If, While, Return, Put, Halt, Else, no_else, else_block, Statements, no_statements, statement, Function}
use Rattle.tiny_code.specs.Code.{Places, arguments_code, choice, code_size, else_code, expr_code, if_code, leave_code, loop}
use Rattle.tiny_code.specs.Code.{main_code, method_code, number_code, operator_code, statement_code, statements_code, steps_code, term_code, test_code}
use Rattle.tiny_code.specs.Image.{else_lines, if_lines, leave_lines, statement_lines, statements_lines, while_lines}

pub distances_append : (a b : List Instr) → distances (a ++ b) ≡ distances a ++ distances b
distances_append a b = flat_map-append (λ (i : Instr). distance_in (row_of i).operands) a b

pub lined : (a b : List Instr) (i j : List ℕ) → HasLines i a → HasLines j b → HasLines (i ++ j) (a ++ b)
lined a b i j h k =
    omega (arith, h, k, length-append i j, ap length (distances_append a b), length-append (distances a) (distances b))

-- with no jump at the end
lined_front : (a b : List Instr) (i : List ℕ) → HasLines i a → HasLines [] b → HasLines i (a ++ b)
lined_front a b i h k = omega (arith, h, k, ap length (distances_append a b), length-append (distances a) (distances b))

operator_lined : (op : Operator) → HasLines [] (operator_code op ∷ [])
operator_lined Plus = refl
operator_lined _ = refl

module _ (p : Places) (local : ℕ) where
  number_lined : (n : ℕ) → HasLines [] (number_code p local n ∷ [])
  number_lined n = by (nat_le n 127)
    where
      by : (b : Bool) → HasLines [] ((if b then Bipush (pos n) else LdcW (p.constant n)) ∷ [])
      by true = refl
      by false = refl

  mutual
    term_lined : (t : Term) → HasLines [] (term_code p local t)
    term_lined (Number n) = number_lined n
    term_lined (Variable x) = refl
    term_lined (Called f args) =
        lined (LdcW 0 ∷ []) (arguments_code p local args ++ Invokevirtual (p.entry f) ∷ []) [] [] refl
        (lined (arguments_code p local args) (Invokevirtual (p.entry f) ∷ []) [] [] (arguments_lined args) refl)
    term_lined Get = refl
    term_lined (Group e) = expr_lined e

    expr_lined : (e : Expr) → HasLines [] (expr_code p local e)
    expr_lined (Sum first rest) = lined (term_code p local first) (steps_code p local rest) [] [] (term_lined first) (steps_lined rest)

    steps_lined : (s : Steps) → HasLines [] (steps_code p local s)
    steps_lined no_steps = refl
    steps_lined (step op t rest) =
        lined (term_code p local t) (operator_code op ∷ steps_code p local rest) [] [] (term_lined t)
        (lined (operator_code op ∷ []) (steps_code p local rest) [] [] (operator_lined op) (steps_lined rest))

    arguments_lined : (args : Arguments) → HasLines [] (arguments_code p local args)
    arguments_lined no_arguments = refl
    arguments_lined (argument e rest) =
        lined (expr_code p local e) (arguments_code p local rest) [] [] (expr_lined e) (arguments_lined rest)

  pub test_lined : (c : Cond) → HasLines [] (test_code p local c)
  test_lined (Equal a b) = lined (expr_code p local a) (expr_code p local b) [] [] (expr_lined a) (expr_lined b)
  test_lined (Different a b) = lined (expr_code p local a) (expr_code p local b) [] [] (expr_lined a) (expr_lined b)
  test_lined (Less a b) =
      lined (expr_code p local a) (expr_code p local b ++ Isub ∷ []) [] [] (expr_lined a)
      (lined (expr_code p local b) (Isub ∷ []) [] [] (expr_lined b) refl)

  choice_lined : (line : ℕ) (test : List Instr) (jump : ℤ → Instr) (first second : List Instr) (i j : List ℕ) →
      ((z : ℤ) → HasLines (line ∷ []) (jump z ∷ [])) → HasLines [] test → HasLines i first → HasLines j second →
      HasLines (line ∷ (i ++ line ∷ j)) (choice test jump first second)
  choice_lined line test jump first second i j jumps tests firsts seconds =
      let far : ℤ = pos (6 + code_size first) in
      let past : List Instr = Goto (pos (3 + code_size second)) ∷ second in
      lined test (jump far ∷ (first ++ past)) [] (line ∷ (i ++ line ∷ j)) tests
      (lined (jump far ∷ []) (first ++ past) (line ∷ []) (i ++ line ∷ j) (jumps far)
      (lined first past i (line ∷ j) firsts (lined (Goto (pos (3 + code_size second)) ∷ []) second (line ∷ []) j refl seconds)))

  if_lined : (line : ℕ) (c : Cond) (taken other : List Instr) (i j : List ℕ) → HasLines i taken → HasLines j other →
      HasLines (if_lines line c i j) (if_code p local c taken other)
  if_lined line (Different a b) taken other i j h k =
      choice_lined line (test_code p local (Different a b)) IfIcmpeq taken other i j (λ z. refl) (test_lined (Different a b)) h k
  if_lined line (Equal a b) taken other i j h k =
      choice_lined line (test_code p local (Equal a b)) IfIcmpeq other taken j i (λ z. refl) (test_lined (Equal a b)) k h
  if_lined line (Less a b) taken other i j h k =
      choice_lined line (test_code p local (Less a b)) Iflt other taken j i (λ z. refl) (test_lined (Less a b)) k h

  pub leave_lined : (line : ℕ) (c : Cond) (size : ℕ) → HasLines (leave_lines line c) (leave_code p local c size)
  leave_lined line (Equal a b) size = refl
  leave_lined line _ size = refl

  while_lined : (line : ℕ) (c : Cond) (body : List Instr) (i : List ℕ) → HasLines i body →
      HasLines (while_lines line c i) (loop (test_code p local c) (leave_code p local c (code_size body)) body)
  while_lined line c body i h =
      let leave : List Instr = leave_code p local c (code_size body) in
      let back : List Instr = Goto (neg_ℤ (pos (code_size (test_code p local c) + code_size leave + code_size body))) ∷ [] in
      lined (test_code p local c) (leave ++ (body ++ back)) [] (while_lines line c i) (test_lined c)
      (lined leave (body ++ back) (leave_lines line c) (i ++ line ∷ []) (leave_lined line c (code_size body))
      (lined body back i (line ∷ []) h refl))

  mutual
    pub statement_lined : (s : Statement) → HasLines (statement_lines s) (statement_code p local s)
    statement_lined (Var x e) = lined_front (expr_code p local e) (Istore (local + x) ∷ []) [] (expr_lined e) refl
    statement_lined (Assign x e) = lined_front (expr_code p local e) (Istore (local + x) ∷ []) [] (expr_lined e) refl
    statement_lined (Calls f args) = lined_front (term_code p local (Called f args)) (Pop ∷ []) [] (term_lined (Called f args)) refl
    statement_lined (If line c taken other) =
        if_lined line c (statements_code p local taken) (else_code p local other) (statements_lines taken) (else_lines other)
        (statements_lined taken) (else_lined other)
    statement_lined (While line c body) = while_lined line c (statements_code p local body) (statements_lines body) (statements_lined body)
    statement_lined (Return e) = lined_front (expr_code p local e) (Ireturn ∷ []) [] (expr_lined e) refl
    statement_lined (Put e) = lined_front (expr_code p local e) (Out ∷ []) [] (expr_lined e) refl
    statement_lined Halt = refl

    pub statements_lined : (ss : Statements) → HasLines (statements_lines ss) (statements_code p local ss)
    statements_lined no_statements = refl
    statements_lined (statement s rest) =
        lined (statement_code p local s) (statements_code p local rest) (statement_lines s) (statements_lines rest)
        (statement_lined s) (statements_lined rest)

    pub else_lined : (o : Else) → HasLines (else_lines o) (else_code p local o)
    else_lined no_else = refl
    else_lined (else_block b) = statements_lined b

pub main_lined : (p : Places) (g : Function) → HasLines (statements_lines g.body) (main_code p g)
main_lined p g = lined_front (statements_code p 0 g.body) (HaltCode ∷ []) (statements_lines g.body) (statements_lined p 0 g.body) refl

pub method_lined : (p : Places) (g : Function) → HasLines (statements_lines g.body) (method_code p g)
method_lined p g =
    lined_front (statements_code p 1 g.body) (Bipush (pos 0) ∷ Ireturn ∷ []) (statements_lines g.body) (statements_lined p 1 g.body) refl
