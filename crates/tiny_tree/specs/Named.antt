-- What is known of a program's names: calls fit their functions, variables are declared before they are read, and main returns nothing.
use Rattle.std.specs.Prelude.{◌≡◌, ◌≢◌, ◌<◌, ◌≤◌, ◌^◌, ℕ, ◌+◌, Bool, true, false, if◌then◌else◌, nat_lt, ◌==◌, slice_get, Some}
use Rattle.tiny_tree.specs.Tree.{Term, Number, Variable, Called, Get, Group, Expr, Sum, Steps, no_steps, step, Arguments, no_arguments, argument, Cond, Equal, Different, Less, Statement, Var, Assign, Calls, If, While, Return, Put, Halt, Else, no_else, else_block, Statements, no_statements, statement, Function, Program}

-- a function but main, that has this many parameters
pub record IsCallable (p : Program) (f count : ℕ) : Type 0 where
  pub function : Function
  pub is : slice_get p.functions f ≡ Some function
  pub counts : function.parameters ≡ count
  pub other : f ≢ p.main

abbrev pub arguments_count : Arguments → ℕ
arguments_count no_arguments = 0
arguments_count (argument e rest) = arguments_count rest + 1

-- the variables that are seen, by position
abbrev pub Seen : Type 0
Seen = ℕ → Bool

-- ---- expressions: numbers are words, variables are seen and among the function's names, of which there are this many

module _ (p : Program) (names : ℕ) (seen : Seen) where
  abbrev mutual
    pub IsNamedTerm : Term → Type 0
    IsNamedTerm (Number n) = n < 2 ^ 32
    IsNamedTerm (Variable x) = (seen x ≡ true) × (x < names)
    IsNamedTerm (Called f args) = IsCallable p f (arguments_count args) × AreNamedArguments args
    IsNamedTerm Get = Unit {0}
    IsNamedTerm (Group e) = IsNamedExpr e

    pub IsNamedExpr : Expr → Type 0
    IsNamedExpr (Sum first rest) = IsNamedTerm first × AreNamedSteps rest

    pub AreNamedSteps : Steps → Type 0
    AreNamedSteps no_steps = Unit {0}
    AreNamedSteps (step op t rest) = IsNamedTerm t × AreNamedSteps rest

    pub AreNamedArguments : Arguments → Type 0
    AreNamedArguments no_arguments = Unit {0}
    AreNamedArguments (argument e rest) = IsNamedExpr e × AreNamedArguments rest

  abbrev pub IsNamedCond : Cond → Type 0
  IsNamedCond (Equal a b) = IsNamedExpr a × IsNamedExpr b
  IsNamedCond (Different a b) = IsNamedExpr a × IsNamedExpr b
  IsNamedCond (Less a b) = IsNamedExpr a × IsNamedExpr b

-- ---- statements: a variable is seen from its `var` statement on to the end of the block

abbrev pub seen_with : Seen → ℕ → Seen
seen_with seen x = λ y. if y == x then true else seen y

abbrev pub seen_after : Statement → Seen → Seen
seen_after (Var x e) seen = seen_with seen x
seen_after s seen = seen

module _ (p : Program) (in_main : Bool) (names : ℕ) where
  abbrev mutual
    pub IsNamedStatement : Statement → Seen → Type 0
    IsNamedStatement (Var x e) seen = IsNamedExpr p names seen e × (x < names)
    IsNamedStatement (Assign x e) seen = IsNamedExpr p names seen e × (seen x ≡ true) × (x < names)
    IsNamedStatement (Calls f args) seen = IsNamedTerm p names seen (Called f args)
    IsNamedStatement (If line c taken other) seen = IsNamedCond p names seen c × AreNamed taken seen × IsNamedElse other seen
    IsNamedStatement (While line c body) seen = IsNamedCond p names seen c × AreNamed body seen
    IsNamedStatement (Return e) seen = IsNamedExpr p names seen e × (in_main ≡ false)
    IsNamedStatement (Put e) seen = IsNamedExpr p names seen e
    IsNamedStatement Halt seen = Unit {0}

    pub AreNamed : Statements → Seen → Type 0
    AreNamed no_statements seen = Unit {0}
    AreNamed (statement s rest) seen = IsNamedStatement s seen × AreNamed rest (seen_after s seen)

    pub IsNamedElse : Else → Seen → Type 0
    IsNamedElse no_else seen = Unit {0}
    IsNamedElse (else_block b) seen = AreNamed b seen

-- ---- programs

abbrev mutual
  -- how many `var` statements there are
  pub vars_in : Statement → ℕ
  vars_in (Var x e) = 1
  vars_in (If line c taken other) = vars_of taken + vars_of_else other
  vars_in (While line c body) = vars_of body
  vars_in (Assign x e) = 0
  vars_in (Calls f args) = 0
  vars_in (Return e) = 0
  vars_in (Put e) = 0
  vars_in Halt = 0

  pub vars_of : Statements → ℕ
  vars_of no_statements = 0
  vars_of (statement s rest) = vars_in s + vars_of rest

  pub vars_of_else : Else → ℕ
  vars_of_else no_else = 0
  vars_of_else (else_block b) = vars_of b

-- the names that a function declares
abbrev pub names_count : Function → ℕ
names_count g = g.parameters + vars_of g.body

abbrev pub parameters_seen : Function → Seen
parameters_seen g = λ x. nat_lt x g.parameters

pub record IsNamedFunction (p : Program) (f : ℕ) (g : Function) : Type 0 where
  pub few : names_count g ≤ 255
  pub body : AreNamed p (f == p.main) (names_count g) g.body (parameters_seen g)

pub record IsNamed (p : Program) : Type 0 where
  pub main : Function
  pub main_is : slice_get p.functions p.main ≡ Some main
  pub no_parameters : main.parameters ≡ 0
  pub functions : (f : ℕ) (g : Function) → slice_get p.functions f ≡ Some g → IsNamedFunction p f g
