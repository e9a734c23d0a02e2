-- What is appended for the parts of a program as they stand in memory: their code, and their jumps.
use Rattle.std.specs.Prelude.{ℕ, ◌+◌, List, [], ◌∷◌, ◌++◌, map, Option}
use Rattle.std.specs.Option.{option_map}
use Rattle.ijvm_instr.specs.declared.instr.Instr.{Instr}
use Rattle.ijvm_instr.specs.declared.instr.Instr.TheVariants.{Istore, Pop, Isub}
use Rattle.ijvm_instr.specs.Prelude.{HasLines}
use Rattle.ijvm_program.specs.declared.line.Jump.{Jump}
use Rattle.ijvm_program.specs.declared.line.Jump.TheVariants.{Iflt, IfIcmpeq}
use Rattle.ijvm_program.specs.Prelude.{jump_by}
use Rattle.tiny_tree.specs.declared.tree.Block.{Block}
use Rattle.tiny_tree.specs.declared.tree.Cond.{Cond}
use Rattle.tiny_tree.specs.declared.tree.Expr.{Expr}
use Rattle.tiny_tree.specs.declared.tree.Statement.{Statement}
use Rattle.tiny_tree.specs.declared.tree.Step.{Step}
use Rattle.tiny_tree.specs.declared.tree.Term.{Term}
use Rattle.tiny_tree.specs.Tree as tree
use Rattle.tiny_tree.specs.Prelude.{Called, arguments_of, else_of, statements_of, steps_of, block_tree, cond_tree, expr_tree, statement_tree, step_tree, term_tree}
use Rattle.tiny_code.specs.Prelude.{Places, arguments_code, choice, code_size, else_code, expr_code, if_code, leave_code, loop, statement_code, statements_code, steps_code, term_code, test_code, else_lines, if_lines, leave_lines, statement_lines, statements_lines, while_lines}
use Rattle.tiny_pool.specs.declared.table.Table.{Table}
use Rattle.tiny_pool.specs.Prelude.{places_in}
use Rattle.ijvm_text.specs.declared.text.Text.{Text}
use Rattle.ijvm_text.specs.Prelude.{AddsCode, IsCode}

-- the jump of a test: where it holds, and for != where its sides are equal
abbrev pub jump_of : tree.Cond → Jump
jump_of (tree.Equal a b) = IfIcmpeq
jump_of (tree.Different a b) = IfIcmpeq
jump_of (tree.Less a b) = Iflt

-- what leads out of the loop of a `while`, or into its body of this size, is added
abbrev pub AddsLeave : Places → ℕ → Text → Text → ℕ → Cond → ℕ → Type 0
AddsLeave p local old new line c size = AddsCode old new (leave_code p local (cond_tree c) size) (leave_lines line (cond_tree c))

-- ---- with the places of a table, in a function whose first variable is this local

module _ (table : Table) (local : ℕ) where
  abbrev pub code_of_term : Term → List Instr
  code_of_term t = term_code (places_in table) local (term_tree t)

  abbrev pub code_of_expr : Expr → List Instr
  code_of_expr e = expr_code (places_in table) local (expr_tree e)

  abbrev pub code_of_steps : List Step → List Instr
  code_of_steps ss = steps_code (places_in table) local (steps_of (map step_tree ss))

  abbrev pub code_of_arguments : List Expr → List Instr
  code_of_arguments es = arguments_code (places_in table) local (arguments_of (map expr_tree es))

  abbrev pub code_of_call : ℕ → List Expr → List Instr
  code_of_call function es = term_code (places_in table) local (Called function (arguments_of (map expr_tree es)))

  abbrev pub code_of_call_alone : ℕ → List Expr → List Instr
  code_of_call_alone function es = code_of_call function es ++ Pop ∷ []

  abbrev pub code_of_store : ℕ → Expr → List Instr
  code_of_store place e = code_of_expr e ++ Istore (local + place) ∷ []

  abbrev pub code_of_sides : Expr → Expr → List Instr
  code_of_sides left right = code_of_expr left ++ code_of_expr right

  abbrev pub code_of_difference : Expr → Expr → List Instr
  code_of_difference left right = code_of_expr left ++ (code_of_expr right ++ Isub ∷ [])

  abbrev pub code_of_test : Cond → List Instr
  code_of_test c = test_code (places_in table) local (cond_tree c)

  abbrev pub AddsStatement : Text → Text → Statement → Type 0
  AddsStatement old new s = AddsCode old new (statement_code (places_in table) local (statement_tree s)) (statement_lines (statement_tree s))

  abbrev AddsAll : Text → Text → tree.Statements → Type 0
  AddsAll old new ss = AddsCode old new (statements_code (places_in table) local ss) (statements_lines ss)

  abbrev pub AddsStatements : Text → Text → List Statement → Type 0
  AddsStatements old new ss = AddsAll old new (statements_of (map statement_tree ss))

  abbrev pub AddsBlock : Text → Text → Block → Type 0
  AddsBlock old new b = AddsAll old new (block_tree b)

  -- the text is this block's code
  abbrev pub IsBlock : Text → Block → Type 0
  IsBlock part b = IsCode part (statements_code (places_in table) local (block_tree b)) (statements_lines (block_tree b))

  -- the text is the code of the block after `else`, where there is one
  abbrev pub IsElse : Text → Option Block → Type 0
  IsElse part b = let other : tree.Else = else_of (option_map block_tree b) in
      IsCode part (else_code (places_in table) local other) (else_lines other)

  -- a choice between two codes, of which the test jumps to the second, is added
  abbrev pub AddsChoice : Text → Text → ℕ → Cond → Text → Text → Type 0
  AddsChoice old new line c first second = (a b : List Instr) (i j : List ℕ) → HasLines i a → IsCode first a i → IsCode second b j →
      AddsCode old new (choice (code_of_test c) (jump_by (jump_of (cond_tree c))) a b) (line ∷ (i ++ line ∷ j))

  -- an `if` with the codes of its two blocks is added
  abbrev pub AddsIf : Text → Text → ℕ → Cond → Text → Text → Type 0
  AddsIf old new line c taken other =
      (a b : List Instr) (i j : List ℕ) → HasLines i a → HasLines j b → IsCode taken a i → IsCode other b j →
      AddsCode old new (if_code (places_in table) local (cond_tree c) a b) (if_lines line (cond_tree c) i j)

  -- a `while` with the code of its block is added
  abbrev pub AddsWhile : Text → Text → ℕ → Cond → Text → Type 0
  AddsWhile old new line c body = (a : List Instr) (i : List ℕ) → HasLines i a → IsCode body a i →
      AddsCode old new (loop (code_of_test c) (leave_code (places_in table) local (cond_tree c) (code_size a)) a) (while_lines line (cond_tree c) i)
