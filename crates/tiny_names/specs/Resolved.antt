-- The program in which every name is its position. A name that is not there has position 0, which happens only where a name is at fault.
use Rattle.std.specs.Prelude.{ℕ, ◌==◌, List, ◌++◌, length, map, Option, Some, None, position, unwrap_or}
use Rattle.tiny_draft.specs.declared.tree.Comparison.{Comparison}
use Rattle.tiny_draft.specs.declared.tree.Comparison.TheVariants as comparisons
use Rattle.tiny_draft.specs.Tree as draft
use Rattle.tiny_tree.specs.Tree as tree
use Rattle.tiny_names.specs.declared.functions.Signature.{Signature}
use Rattle.tiny_names.specs.Names.{all_names, called, name_of}

abbrev pub place_in : List ℕ → ℕ → ℕ
place_in names name = unwrap_or (position (λ n. n == name) names) 0

abbrev pub function_place : Option Signature → ℕ
function_place None = 0
function_place (Some f) = f.place

module _ (known : ℕ → Option Signature) (names : List ℕ) where
  abbrev mutual
    pub term : draft.Term → tree.Term
    term (draft.Number n) = tree.Number n
    term (draft.Variable w) = tree.Variable (place_in names w.name)
    term (draft.Called w es) = tree.Called (function_place (known w.name)) (arguments es)
    term draft.Get = tree.Get
    term (draft.Group e) = tree.Group (expr e)

    pub expr : draft.Expr → tree.Expr
    expr (draft.Sum t ss) = tree.Sum (term t) (steps ss)

    pub steps : draft.Steps → tree.Steps
    steps draft.no_steps = tree.no_steps
    steps (draft.step o t ss) = tree.step o (term t) (steps ss)

    pub arguments : draft.Arguments → tree.Arguments
    arguments draft.no_arguments = tree.no_arguments
    arguments (draft.argument e es) = tree.argument (expr e) (arguments es)

  abbrev pub compared : Comparison → tree.Expr → tree.Expr → tree.Cond
  compared comparisons.Equal a b = tree.Equal a b
  compared comparisons.Different a b = tree.Different a b
  compared comparisons.Less a b = tree.Less a b

  abbrev pub cond : draft.Cond → tree.Cond
  cond (draft.Compare c a b) = compared c (expr a) (expr b)

  abbrev mutual
    pub statement : draft.Statement → tree.Statement
    statement (draft.Var w e) = tree.Var (place_in names w.name) (expr e)
    statement (draft.Assign w e) = tree.Assign (place_in names w.name) (expr e)
    statement (draft.Calls w es) = tree.Calls (function_place (known w.name)) (arguments es)
    statement (draft.If l c b other) = tree.If l (cond c) (statements b) (otherwise other)
    statement (draft.While l c b) = tree.While l (cond c) (statements b)
    statement (draft.Return l e) = tree.Return (expr e)
    statement (draft.Put e) = tree.Put (expr e)
    statement draft.Halt = tree.Halt

    pub otherwise : draft.Else → tree.Else
    otherwise draft.no_else = tree.no_else
    otherwise (draft.else_block b) = tree.else_block (statements b)

    pub statements : draft.Statements → tree.Statements
    statements draft.no_statements = tree.no_statements
    statements (draft.statement s ss) = tree.statement (statement s) (statements ss)

-- the names that a function declares, its parameters first
abbrev pub function_names : draft.Function → List ℕ
function_names f = map name_of f.parameters ++ all_names f.body

abbrev pub function_of : (ℕ → Option Signature) → draft.Function → tree.Function
function_of known f = record { parameters = length f.parameters; body = statements known (function_names f) f.body }

abbrev pub resolved : List draft.Function → tree.Program
resolved fs = record { functions = map (function_of (called fs)) fs; main = function_place (called fs 0) }
