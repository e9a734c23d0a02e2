-- The tree of a text, as plain data: what is written, without signs. A name, `if`, `while` and `return` keep their lines.
use Rattle.std.specs.Prelude.{ℕ, List, [], ◌∷◌, Option, Some, None}
use Rattle.tiny_tree.specs.declared.tree.Operator.{Operator}
use Rattle.tiny_draft.specs.declared.tree.Comparison.{Comparison}
use Rattle.tiny_draft.specs.declared.tree.Word.{Word}

mutual
  pub data Term : Type 0 where
    Number : ℕ → Term
    Variable : Word → Term
    Called : Word → Arguments → Term
    Get : Term
    Group : Expr → Term

  pub data Expr : Type 0 where
    Sum : Term → Steps → Expr

  pub data Steps : Type 0 where
    no_steps : Steps
    step : Operator → Term → Steps → Steps

  pub data Arguments : Type 0 where
    no_arguments : Arguments
    argument : Expr → Arguments → Arguments

pub data Cond : Type 0 where
  Compare : Comparison → Expr → Expr → Cond

mutual
  pub data Statement : Type 0 where
    Var : Word → Expr → Statement
    Assign : Word → Expr → Statement
    Calls : Word → Arguments → Statement
    If : ℕ → Cond → Statements → Else → Statement
    While : ℕ → Cond → Statements → Statement
    Return : ℕ → Expr → Statement
    Put : Expr → Statement
    Halt : Statement

  pub data Else : Type 0 where
    no_else : Else
    else_block : Statements → Else

  pub data Statements : Type 0 where
    no_statements : Statements
    statement : Statement → Statements → Statements

pub record Function : Type 0 where
  pub name : Word
  pub parameters : List Word
  pub body : Statements

-- ---- from lists

abbrev pub steps_of : List (Operator × Term) → Steps
steps_of [] = no_steps
steps_of (s ∷ ss) = step s.0 s.1 (steps_of ss)

abbrev pub arguments_of : List Expr → Arguments
arguments_of [] = no_arguments
arguments_of (e ∷ es) = argument e (arguments_of es)

abbrev pub statements_of : List Statement → Statements
statements_of [] = no_statements
statements_of (s ∷ ss) = statement s (statements_of ss)

abbrev pub else_of : Option Statements → Else
else_of None = no_else
else_of (Some ss) = else_block ss
