-- The code of a program. A jump's distance is the size of the code between, so the code of a part does not depend on where it stands.
use Rattle.std.specs.Prelude.{ℕ, ℤ, pos, neg_ℤ, ◌+◌, not, if◌then◌else◌, nat_le, nat_lt, ◌==◌, List, [], ◌∷◌, ◌++◌, length}
use Rattle.tiny_code.specs.Common.{filter, flat_map, enumerate_from, position_or_len, Instr, row_of, size_of, Operator, Plus, Minus, And, Or}
use Rattle.ijvm_instr.specs.declared.instr.Instr.TheVariants.{Bipush, LdcW, Iload, Istore, Pop, Iadd, Isub, Iand, Iflt, IfIcmpeq, Goto, Ireturn, Ior, Invokevirtual, In, Out, Halt as HaltCode}
use Rattle.tiny_tree.specs.Prelude.{Term, Number, Variable, Called, Get, Group, Expr, Sum, Steps, no_steps, step, Arguments, no_arguments, argument, Cond, Equal, Different, Less, Statement, Var, Assign, Calls, If, While, Return, Put, Halt, Else, no_else, else_block, Statements, no_statements, statement, Function, Program}

-- where the pool has a number above 127, and the entry of a function
pub record Places : Type 0 where
  pub constant : ℕ → ℕ
  pub entry : ℕ → ℕ

-- in bytes
abbrev pub code_size : List Instr → ℕ
code_size [] = 0
code_size (i ∷ is) = size_of (row_of i) + code_size is

abbrev pub operator_code : Operator → Instr
operator_code Plus = Iadd
operator_code Minus = Isub
operator_code And = Iand
operator_code Or = Ior

-- a test, a jump to the second side where it holds, the first side, and a jump past the second
abbrev pub choice : List Instr → (ℤ → Instr) → List Instr → List Instr → List Instr
choice test jump first second = test ++ (jump (pos (6 + code_size first)) ∷ (first ++ (Goto (pos (3 + code_size second)) ∷ second)))

-- a test, what leads out of the loop or into its body, the body, and a jump back
abbrev pub loop : List Instr → List Instr → List Instr → List Instr
loop test leave body = test ++ (leave ++ (body ++ Goto (neg_ℤ (pos (code_size test + code_size leave + code_size body))) ∷ []))

-- ---- the code of a function's parts, where its first variable is this local

module _ (p : Places) (local : ℕ) where
  abbrev pub number_code : ℕ → Instr
  number_code n = if nat_le n 127 then Bipush (pos n) else LdcW (p.constant n)

  abbrev mutual
    pub term_code : Term → List Instr
    term_code (Number n) = number_code n ∷ []
    term_code (Variable x) = Iload (local + x) ∷ []
    term_code (Called f args) = LdcW 0 ∷ (arguments_code args ++ Invokevirtual (p.entry f) ∷ [])
    term_code Get = In ∷ []
    term_code (Group e) = expr_code e

    pub expr_code : Expr → List Instr
    expr_code (Sum first rest) = term_code first ++ steps_code rest

    pub steps_code : Steps → List Instr
    steps_code no_steps = []
    steps_code (step op t rest) = term_code t ++ (operator_code op ∷ steps_code rest)

    pub arguments_code : Arguments → List Instr
    arguments_code no_arguments = []
    arguments_code (argument e rest) = expr_code e ++ arguments_code rest

  abbrev pub test_code : Cond → List Instr
  test_code (Equal a b) = expr_code a ++ expr_code b
  test_code (Different a b) = expr_code a ++ expr_code b
  test_code (Less a b) = expr_code a ++ (expr_code b ++ Isub ∷ [])

  -- jumps where == or < holds, and for != where the sides are equal
  abbrev pub test_jump : Cond → ℤ → Instr
  test_jump (Equal a b) = IfIcmpeq
  test_jump (Different a b) = IfIcmpeq
  test_jump (Less a b) = Iflt

  abbrev pub if_code : Cond → List Instr → List Instr → List Instr
  if_code (Different a b) taken other = choice (test_code (Different a b)) IfIcmpeq taken other
  if_code (Equal a b) taken other = choice (test_code (Equal a b)) IfIcmpeq other taken
  if_code (Less a b) taken other = choice (test_code (Less a b)) Iflt other taken

  -- out of a loop with a body of this size, or into it
  abbrev pub leave_code : Cond → ℕ → List Instr
  leave_code (Different a b) size = IfIcmpeq (pos (6 + size)) ∷ []
  leave_code (Equal a b) size = IfIcmpeq (pos 6) ∷ Goto (pos (6 + size)) ∷ []
  leave_code (Less a b) size = Iflt (pos 6) ∷ Goto (pos (6 + size)) ∷ []

  abbrev mutual
    pub statement_code : Statement → List Instr
    statement_code (Var x e) = expr_code e ++ Istore (local + x) ∷ []
    statement_code (Assign x e) = expr_code e ++ Istore (local + x) ∷ []
    statement_code (Calls f args) = term_code (Called f args) ++ Pop ∷ []
    statement_code (If line c taken other) = if_code c (statements_code taken) (else_code other)
    statement_code (While line c body) = loop (test_code c) (leave_code c (code_size (statements_code body))) (statements_code body)
    statement_code (Return e) = expr_code e ++ Ireturn ∷ []
    statement_code (Put e) = expr_code e ++ Out ∷ []
    statement_code Halt = HaltCode ∷ []

    pub statements_code : Statements → List Instr
    statements_code no_statements = []
    statements_code (statement s rest) = statement_code s ++ statements_code rest

    pub else_code : Else → List Instr
    else_code no_else = []
    else_code (else_block b) = statements_code b

-- ---- the code of functions

abbrev pub main_code : Places → Function → List Instr
main_code p g = statements_code p 0 g.body ++ HaltCode ∷ []

-- local 0 of a method has its link word
abbrev pub method_code : Places → Function → List Instr
method_code p g = statements_code p 1 g.body ++ Bipush (pos 0) ∷ Ireturn ∷ []

-- the size of a method with its header, in bytes
abbrev pub method_size : Places → Function → ℕ
method_size p g = 4 + code_size (method_code p g)

-- the functions but main, in order, each with its position
abbrev pub methods : Program → List (ℕ × Function)
methods program = filter (λ m. not (m.0 == program.main)) (enumerate_from 0 program.functions)

-- ---- the numbers above 127, in the order of the text

abbrev pub large : ℕ → List ℕ
large n = if nat_le n 127 then [] else n ∷ []

abbrev mutual
  pub term_numbers : Term → List ℕ
  term_numbers (Number n) = large n
  term_numbers (Variable x) = []
  term_numbers (Called f args) = arguments_numbers args
  term_numbers Get = []
  term_numbers (Group e) = expr_numbers e

  pub expr_numbers : Expr → List ℕ
  expr_numbers (Sum first rest) = term_numbers first ++ steps_numbers rest

  pub steps_numbers : Steps → List ℕ
  steps_numbers no_steps = []
  steps_numbers (step op t rest) = term_numbers t ++ steps_numbers rest

  pub arguments_numbers : Arguments → List ℕ
  arguments_numbers no_arguments = []
  arguments_numbers (argument e rest) = expr_numbers e ++ arguments_numbers rest

abbrev pub cond_numbers : Cond → List ℕ
cond_numbers (Equal a b) = expr_numbers a ++ expr_numbers b
cond_numbers (Different a b) = expr_numbers a ++ expr_numbers b
cond_numbers (Less a b) = expr_numbers a ++ expr_numbers b

abbrev mutual
  pub statement_numbers : Statement → List ℕ
  statement_numbers (Var x e) = expr_numbers e
  statement_numbers (Assign x e) = expr_numbers e
  statement_numbers (Calls f args) = arguments_numbers args
  statement_numbers (If line c taken other) = cond_numbers c ++ (statements_numbers taken ++ else_numbers other)
  statement_numbers (While line c body) = cond_numbers c ++ statements_numbers body
  statement_numbers (Return e) = expr_numbers e
  statement_numbers (Put e) = expr_numbers e
  statement_numbers Halt = []

  pub statements_numbers : Statements → List ℕ
  statements_numbers no_statements = []
  statements_numbers (statement s rest) = statement_numbers s ++ statements_numbers rest

  pub else_numbers : Else → List ℕ
  else_numbers no_else = []
  else_numbers (else_block b) = statements_numbers b

abbrev pub function_numbers : Function → List ℕ
function_numbers g = statements_numbers g.body

-- each once, where it occurs first
abbrev pub once : List ℕ → List ℕ
once [] = []
once (n ∷ ns) = n ∷ filter (λ m. not (m == n)) (once ns)

abbrev pub numbers : Program → List ℕ
numbers program = once (flat_map function_numbers program.functions)

-- ---- the pool: 0, the entries of the functions but main, then the numbers

abbrev pub places_of : Program → Places
places_of program =
    record {
      constant = λ n. length program.functions + position_or_len (λ m. m == n) (numbers program);
      entry = λ f. if nat_lt f program.main then f + 1 else f;
    }
