-- Each part of a written program with positions for its names, with the table of the program's functions and the names of its own function.
use Rattle.std.specs.Prelude.{ℕ, List, map, Option}
use Rattle.tiny_draft.specs.declared.tree.Block.{Block}
use Rattle.tiny_draft.specs.declared.tree.Branches.{Branches}
use Rattle.tiny_draft.specs.declared.tree.Cond.{Cond}
use Rattle.tiny_draft.specs.declared.tree.Expr.{Expr}
use Rattle.tiny_draft.specs.declared.tree.Function.{Function}
use Rattle.tiny_draft.specs.declared.tree.Statement.{Statement}
use Rattle.tiny_draft.specs.declared.tree.Step.{Step}
use Rattle.tiny_draft.specs.declared.tree.Sum.{Sum}
use Rattle.tiny_draft.specs.declared.tree.Term.{Term}
use Rattle.tiny_draft.specs.Prelude.{branches_tree, else_tree, arguments_of, steps_of, block_tree, cond_tree, expr_tree, function_tree, statement_tree, step_tree, sum_tree, term_tree}
use Rattle.tiny_tree.specs.Tree as tree
use Rattle.tiny_names.specs.declared.functions.Signature.{Signature}
use Rattle.tiny_names.specs.Names.{lookup}
use Rattle.tiny_names.specs.Resolved.{arguments, cond, expr, function_of, function_place, otherwise, statement, statements, steps, term}

module _ (functions : List (Option Signature)) where
  module _ (names : List ℕ) where
    abbrev pub resolved_term : Term → tree.Term
    resolved_term t = term (lookup functions) names (term_tree t)

    abbrev pub resolved_expr : Expr → tree.Expr
    resolved_expr e = expr (lookup functions) names (expr_tree e)

    abbrev pub resolved_sum : Sum → tree.Expr
    resolved_sum s = expr (lookup functions) names (sum_tree s)

    abbrev pub resolved_steps : List Step → tree.Steps
    resolved_steps ss = steps (lookup functions) names (steps_of (map step_tree ss))

    abbrev pub resolved_arguments : List Expr → tree.Arguments
    resolved_arguments es = arguments (lookup functions) names (arguments_of (map expr_tree es))

    abbrev pub resolved_cond : Cond → tree.Cond
    resolved_cond c = cond (lookup functions) names (cond_tree c)

    -- a call that is a statement
    abbrev pub resolved_call : ℕ → List Expr → tree.Statement
    resolved_call name es = tree.Calls (function_place (lookup functions name)) (resolved_arguments es)

    abbrev pub resolved_statement : Statement → tree.Statement
    resolved_statement s = statement (lookup functions) names (statement_tree s)

    abbrev pub resolved_block : Block → tree.Statements
    resolved_block b = statements (lookup functions) names (block_tree b)

    abbrev pub resolved_else : Option Block → tree.Else
    resolved_else b = otherwise (lookup functions) names (else_tree b)

    abbrev pub resolved_if : ℕ → Cond → Branches → tree.Statement
    resolved_if line c b = let blocks = branches_tree b in
        tree.If line (resolved_cond c) (statements (lookup functions) names blocks.0) (otherwise (lookup functions) names blocks.1)

    abbrev pub resolved_while : ℕ → Cond → Block → tree.Statement
    resolved_while line c b = tree.While line (resolved_cond c) (resolved_block b)

  abbrev pub resolved_function : Function → tree.Function
  resolved_function f = function_of (lookup functions) (function_tree f)
