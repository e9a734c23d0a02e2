-- The first fault of each part of a program as it stands in memory, with the table of its functions.
use Rattle.std.specs.Prelude.{ℕ, Bool, List, [], ◌++◌, map, Option, Vec}
use Rattle.std.specs.declared.alloc.Global.{Global}
use Rattle.tiny_draft.specs.declared.tree.Block.{Block}
use Rattle.tiny_draft.specs.declared.tree.Branches.{Branches}
use Rattle.tiny_draft.specs.declared.tree.Cond.{Cond}
use Rattle.tiny_draft.specs.declared.tree.Expr.{Expr}
use Rattle.tiny_draft.specs.declared.tree.Function.{Function}
use Rattle.tiny_draft.specs.declared.tree.Statement.{Statement}
use Rattle.tiny_draft.specs.declared.tree.Sum.{Sum}
use Rattle.tiny_draft.specs.declared.tree.Term.{Term}
use Rattle.tiny_draft.specs.Prelude.{branches_tree, else_tree, arguments_of, at, block_tree, cond_tree, expr_tree, function_tree, statement_tree, sum_tree, term_tree}
use Rattle.tiny_names.specs.declared.fault.Fault.{Fault}
use Rattle.tiny_names.specs.declared.functions.Signature.{Signature}
use Rattle.tiny_names.specs.Faults.{argument_faults, block_faults, body_faults, call_faults, cond_faults, count, declare_faults, else_faults, expr_faults, first, function_faults, own_faults, parameter_faults, return_faults, statement_faults, term_faults, use_faults}
use Rattle.tiny_names.specs.Names.{all_names, else_names, lookup}

-- the names that are declared in what follows `else`
abbrev pub names_of_else : Option Block → List ℕ
names_of_else b = else_names (else_tree b)

-- the names that are declared in the two blocks of an `if`
abbrev pub names_of_branches : Branches → List ℕ
names_of_branches b = let blocks = branches_tree b in all_names blocks.0 ++ else_names blocks.1

module _ (functions : List (Option Signature)) where
  -- ---- expressions, with the variables that are seen

  -- the first fault of a function that is called, by its name
  abbrev pub name_fault : ℕ → ℕ → List Expr → Option Fault
  name_fault name line es = first (call_faults (lookup functions) (at name line) (count (arguments_of (map expr_tree es))))

  abbrev pub term_fault : List ℕ → Term → Option Fault
  term_fault seen t = first (term_faults (lookup functions) seen (term_tree t))

  abbrev pub expr_fault : List ℕ → Expr → Option Fault
  expr_fault seen e = first (expr_faults (lookup functions) seen (expr_tree e))

  abbrev pub sum_fault : List ℕ → Sum → Option Fault
  sum_fault seen s = first (expr_faults (lookup functions) seen (sum_tree s))

  abbrev pub argument_fault : List ℕ → List Expr → Option Fault
  argument_fault seen es = first (argument_faults (lookup functions) seen (arguments_of (map expr_tree es)))

  -- the first fault of the function that is called, then of its arguments
  abbrev pub call_fault : List ℕ → ℕ → ℕ → List Expr → Option Fault
  call_fault seen name line es = first (call_faults (lookup functions) (at name line) (count (arguments_of (map expr_tree es)))
      ++ argument_faults (lookup functions) seen (arguments_of (map expr_tree es)))

  abbrev pub cond_fault : List ℕ → Cond → Option Fault
  cond_fault seen c = first (cond_faults (lookup functions) seen (cond_tree c))

  -- ---- statements, with the names that are declared so far

  abbrev pub var_fault : Vec ℕ Global → Vec ℕ Global → ℕ → ℕ → Expr → Option Fault
  var_fault declared seen name line e = first (declare_faults declared.items (at name line) ++ expr_faults (lookup functions) seen.items (expr_tree e))

  abbrev pub assign_fault : List ℕ → ℕ → ℕ → Expr → Option Fault
  assign_fault seen name line e = first (use_faults seen (at name line) ++ expr_faults (lookup functions) seen (expr_tree e))

  abbrev pub return_fault : Bool → List ℕ → ℕ → Expr → Option Fault
  return_fault in_main seen line e = first (return_faults in_main line ++ expr_faults (lookup functions) seen (expr_tree e))

  abbrev pub if_fault : Bool → Vec ℕ Global → Vec ℕ Global → Cond → Branches → Option Fault
  if_fault in_main declared seen c b = let blocks = branches_tree b in first (cond_faults (lookup functions) seen.items (cond_tree c)
      ++ (block_faults (lookup functions) in_main declared.items seen.items blocks.0
      ++ else_faults (lookup functions) in_main (declared.items ++ all_names blocks.0) seen.items blocks.1))

  abbrev pub while_fault : Bool → Vec ℕ Global → Vec ℕ Global → Cond → Block → Option Fault
  while_fault in_main declared seen c b = first (cond_faults (lookup functions) seen.items (cond_tree c)
      ++ block_faults (lookup functions) in_main declared.items seen.items (block_tree b))

  abbrev pub statement_fault : Bool → Vec ℕ Global → Vec ℕ Global → Statement → Option Fault
  statement_fault in_main declared seen s = first (statement_faults (lookup functions) in_main declared.items seen.items (statement_tree s))

  abbrev pub else_fault : Bool → Vec ℕ Global → Vec ℕ Global → Option Block → Option Fault
  else_fault in_main declared seen b = first (else_faults (lookup functions) in_main declared.items seen.items (else_tree b))

  abbrev pub block_fault : Bool → Vec ℕ Global → Vec ℕ Global → Block → Option Fault
  block_fault in_main declared seen b = first (block_faults (lookup functions) in_main declared.items seen.items (block_tree b))

  -- ---- functions

  abbrev pub own_fault : ℕ → Function → Option Fault
  own_fault place f = first (own_faults (lookup functions f.name.name) place (function_tree f))

  -- the first fault of a function's parameters, then of its body
  abbrev pub inner_fault : Function → Option Fault
  inner_fault f = first (parameter_faults [] f.parameters ++ body_faults (lookup functions) (function_tree f))

  abbrev pub faults_of : ℕ → Function → List Fault
  faults_of place f = function_faults (lookup functions) place (function_tree f)
