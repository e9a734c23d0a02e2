-- The faults of names, in the order of the text. A variable is seen from after its `var` to the end of its block;
-- each name is declared once in a function, and at most 255 are.
use Rattle.std.specs.Prelude.{ℕ, ◌+◌, ◌==◌, Bool, List, [], ◌∷◌, ◌++◌, length, map, Option, Some, None, if◌then◌else◌, nat_le}
use Rattle.tiny_draft.specs.declared.tree.Word.{Word}
use Rattle.tiny_draft.specs.Prelude.{Function, Term, Number, Variable, Called, Get, Group, Expr, Sum, Steps, no_steps, step, Arguments, no_arguments, argument, Cond, Compare, Statement, Var, Assign, Calls, If, While, Return, Put, Halt, Else, no_else, else_block, Statements, no_statements, statement}
use Rattle.tiny_names.specs.declared.fault.Fault.{Fault}
use Rattle.tiny_names.specs.declared.fault.Fault.TheVariants as faults
use Rattle.tiny_names.specs.declared.functions.Signature.{Signature}
use Rattle.tiny_names.specs.Names.{all_names, called, has, is_main, name_of, names, shows}

abbrev pub first : List Fault → Option Fault
first [] = None
first (f ∷ fs) = Some f

abbrev pub count : Arguments → ℕ
count no_arguments = 0
count (argument e es) = count es + 1

-- ---- expressions, with what functions are called and which variables are seen

abbrev pub use_faults : List ℕ → Word → List Fault
use_faults seen w = if has seen w.name then [] else faults.UnknownName w.line ∷ []

abbrev pub call_by : Option Signature → Word → ℕ → List Fault
call_by None w given = faults.UnknownName w.line ∷ []
call_by (Some f) w given = if is_main w.name then faults.BadCall w.line ∷ []
    else (if f.parameters == given then [] else faults.BadCall w.line ∷ [])

module _ (known : ℕ → Option Signature) where
  abbrev pub call_faults : Word → ℕ → List Fault
  call_faults w given = call_by (known w.name) w given

  abbrev mutual
    pub term_faults : List ℕ → Term → List Fault
    term_faults seen (Number n) = []
    term_faults seen (Variable w) = use_faults seen w
    term_faults seen (Called w es) = call_faults w (count es) ++ argument_faults seen es
    term_faults seen Get = []
    term_faults seen (Group e) = expr_faults seen e

    pub expr_faults : List ℕ → Expr → List Fault
    expr_faults seen (Sum t ss) = term_faults seen t ++ step_faults seen ss

    pub step_faults : List ℕ → Steps → List Fault
    step_faults seen no_steps = []
    step_faults seen (step o t ss) = term_faults seen t ++ step_faults seen ss

    pub argument_faults : List ℕ → Arguments → List Fault
    argument_faults seen no_arguments = []
    argument_faults seen (argument e es) = expr_faults seen e ++ argument_faults seen es

  abbrev pub cond_faults : List ℕ → Cond → List Fault
  cond_faults seen (Compare c a b) = expr_faults seen a ++ expr_faults seen b

-- ---- statements, with the names that are declared so far

abbrev pub declare_faults : List ℕ → Word → List Fault
declare_faults declared w = if has declared w.name then faults.DuplicateName w.line ∷ []
    else (if nat_le 255 (length declared) then faults.TooManyNames w.line ∷ [] else [])

abbrev pub return_faults : Bool → ℕ → List Fault
return_faults in_main line = if in_main then faults.ReturnInMain line ∷ [] else []

module _ (known : ℕ → Option Signature) (in_main : Bool) where
  abbrev mutual
    pub statement_faults : List ℕ → List ℕ → Statement → List Fault
    statement_faults declared seen (Var w e) = declare_faults declared w ++ expr_faults known seen e
    statement_faults declared seen (Assign w e) = use_faults seen w ++ expr_faults known seen e
    statement_faults declared seen (Calls w es) = call_faults known w (count es) ++ argument_faults known seen es
    statement_faults declared seen (If l c b other) =
        cond_faults known seen c ++ (block_faults declared seen b ++ else_faults (declared ++ all_names b) seen other)
    statement_faults declared seen (While l c b) = cond_faults known seen c ++ block_faults declared seen b
    statement_faults declared seen (Return l e) = return_faults in_main l ++ expr_faults known seen e
    statement_faults declared seen (Put e) = expr_faults known seen e
    statement_faults declared seen Halt = []

    pub else_faults : List ℕ → List ℕ → Else → List Fault
    else_faults declared seen no_else = []
    else_faults declared seen (else_block b) = block_faults declared seen b

    pub block_faults : List ℕ → List ℕ → Statements → List Fault
    block_faults declared seen no_statements = []
    block_faults declared seen (statement s ss) =
        statement_faults declared seen s ++ block_faults (declared ++ names s) (seen ++ shows s) ss

-- ---- functions

abbrev pub parameter_faults : List ℕ → List Word → List Fault
parameter_faults declared [] = []
parameter_faults declared (w ∷ ws) = declare_faults declared w ++ parameter_faults (declared ++ w.name ∷ []) ws

-- the faults of a function's own name: the first function of it stands here, and `main` has no parameters
abbrev pub own_faults : Option Signature → ℕ → Function → List Fault
own_faults None place f = faults.DuplicateName f.name.line ∷ []
own_faults (Some s) place f = if s.place == place then
    (if is_main f.name.name then (if length f.parameters == 0 then [] else faults.BadCall f.name.line ∷ []) else [])
    else faults.DuplicateName f.name.line ∷ []

module _ (known : ℕ → Option Signature) where
  abbrev pub body_faults : Function → List Fault
  body_faults f = let parameters = map name_of f.parameters in
      block_faults known (is_main f.name.name) parameters parameters f.body

  abbrev pub function_faults : ℕ → Function → List Fault
  function_faults place f = own_faults (known f.name.name) place f ++ (parameter_faults [] f.parameters ++ body_faults f)

  -- the faults of functions, the first of which has this place
  abbrev pub faults_from : ℕ → List Function → List Fault
  faults_from place [] = []
  faults_from place (f ∷ fs) = function_faults place f ++ faults_from (place + 1) fs

-- the fault that there is no `main`, after all others
abbrev pub main_faults : Option Signature → List Fault
main_faults None = faults.NoMain ∷ []
main_faults (Some s) = []

abbrev pub all_faults : List Function → List Fault
all_faults fs = faults_from (called fs) 0 fs ++ main_faults (called fs 0)
