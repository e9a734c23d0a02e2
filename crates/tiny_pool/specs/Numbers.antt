-- The numbers of parts of a program as they stand in memory.
use Rattle.std.specs.Prelude.{ℕ, List, ◌++◌, map, Option}
use Rattle.std.specs.Option.{option_map}
use Rattle.tiny_tree.specs.declared.tree.Block.{Block}
use Rattle.tiny_tree.specs.declared.tree.Expr.{Expr}
use Rattle.tiny_tree.specs.Prelude.{arguments_of, else_of, block_tree, expr_tree}
use Rattle.tiny_code.specs.Prelude.{arguments_numbers, else_numbers, expr_numbers}

abbrev pub numbers_of_arguments : List Expr → List ℕ
numbers_of_arguments es = arguments_numbers (arguments_of (map expr_tree es))

-- the numbers of both sides of a comparison
abbrev pub numbers_of_sides : Expr → Expr → List ℕ
numbers_of_sides left right = expr_numbers (expr_tree left) ++ expr_numbers (expr_tree right)

-- the numbers of the block after `else`, where there is one
abbrev pub numbers_of_else : Option Block → List ℕ
numbers_of_else b = else_numbers (else_of (option_map block_tree b))
