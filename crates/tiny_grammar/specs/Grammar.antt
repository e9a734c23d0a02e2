-- The grammar: how a tree is spelled. Only names, `if`, `while` and `return` keep their lines, so the other tokens stand here without lines.
use Rattle.std.specs.Prelude.{◌≡◌, ℕ, List, [], ◌∷◌, ◌++◌, map}
use Rattle.tiny_grammar.specs.Common.{Operator, Kind, Sign, Token, Comparison, Word}
use Rattle.tiny_tree.specs.declared.tree.Operator.TheVariants as operators
use Rattle.tiny_draft.specs.declared.token.Kind.TheVariants as kinds
use Rattle.tiny_draft.specs.declared.token.Sign.TheVariants as signs
use Rattle.tiny_draft.specs.declared.tree.Comparison.TheVariants as comparisons
use Rattle.tiny_draft.specs.Prelude.{Function, Term, Number, Variable, Called, Get, Group, Expr, Sum, Steps, no_steps, step, Arguments, no_arguments, argument, Cond, Compare, Statement, Var, Assign, Calls, If, While, Return, Put, Halt, Else, no_else, else_block, Statements, no_statements, statement}

-- ---- tokens without the lines that no tree keeps

abbrev pub kept_line : Kind → ℕ → ℕ
kept_line (kinds.Name n) line = line
kept_line (kinds.Of signs.If) line = line
kept_line (kinds.Of signs.While) line = line
kept_line (kinds.Of signs.Return) line = line
kept_line _ line = 0

abbrev pub kept : Token → Token
kept t = record { kind = t.kind; line = kept_line t.kind t.line }

abbrev pub bare : Kind → Token
bare k = record { kind = k; line = 0 }

abbrev pub sign : Sign → Token
sign s = bare (kinds.Of s)

abbrev pub sign_at : Sign → ℕ → Token
sign_at s line = record { kind = kinds.Of s; line = line }

abbrev pub word : Word → Token
word w = record { kind = kinds.Name w.name; line = w.line }

abbrev pub operator : Operator → Token
operator operators.Plus = sign signs.Plus
operator operators.Minus = sign signs.Minus
operator operators.And = sign signs.And
operator operators.Or = sign signs.Or

abbrev pub comparison : Comparison → Token
comparison comparisons.Equal = sign signs.Equal
comparison comparisons.Different = sign signs.Different
comparison comparisons.Less = sign signs.Less

-- ---- expressions

abbrev mutual
  pub spell_term : Term → List Token
  spell_term (Number n) = bare (kinds.Number n) ∷ []
  spell_term (Variable w) = word w ∷ []
  spell_term (Called w es) = word w ∷ (sign signs.Open ∷ spell_arguments es)
  spell_term Get = sign signs.Get ∷ []
  spell_term (Group e) = sign signs.Open ∷ (spell_expr e ++ (sign signs.Close ∷ []))

  pub spell_expr : Expr → List Token
  spell_expr (Sum t ss) = spell_term t ++ spell_steps ss

  pub spell_steps : Steps → List Token
  spell_steps no_steps = []
  spell_steps (step o t ss) = operator o ∷ (spell_term t ++ spell_steps ss)

  -- after the opening parenthesis, with the closing one
  pub spell_arguments : Arguments → List Token
  spell_arguments no_arguments = sign signs.Close ∷ []
  spell_arguments (argument e es) = spell_expr e ++ spell_more es

  pub spell_more : Arguments → List Token
  spell_more no_arguments = sign signs.Close ∷ []
  spell_more (argument e es) = sign signs.Comma ∷ (spell_expr e ++ spell_more es)

abbrev pub spell_cond : Cond → List Token
spell_cond (Compare c a b) = spell_expr a ++ (comparison c ∷ spell_expr b)

-- ---- statements

abbrev pub end : List Token
end = sign signs.Semicolon ∷ []

abbrev mutual
  pub spell_statement : Statement → List Token
  spell_statement (Var w e) = sign signs.Var ∷ (word w ∷ (sign signs.Assign ∷ (spell_expr e ++ end)))
  spell_statement (Assign w e) = word w ∷ (sign signs.Assign ∷ (spell_expr e ++ end))
  spell_statement (Calls w es) = word w ∷ (sign signs.Open ∷ (spell_arguments es ++ end))
  spell_statement (If l c b other) = sign_at signs.If l
      ∷ (spell_cond c ++ ((sign signs.Begin ∷ (spell_statements b ++ (sign signs.End ∷ []))) ++ spell_else other))
  spell_statement (While l c b) = sign_at signs.While l ∷ (spell_cond c ++ (sign signs.Begin ∷ (spell_statements b ++ (sign signs.End ∷ []))))
  spell_statement (Return l e) = sign_at signs.Return l ∷ (spell_expr e ++ end)
  spell_statement (Put e) = sign signs.Put ∷ (spell_expr e ++ end)
  spell_statement Halt = sign signs.Halt ∷ end

  pub spell_else : Else → List Token
  spell_else no_else = []
  spell_else (else_block b) = sign signs.Else ∷ (sign signs.Begin ∷ (spell_statements b ++ (sign signs.End ∷ [])))

  pub spell_statements : Statements → List Token
  spell_statements no_statements = []
  spell_statements (statement s ss) = spell_statement s ++ spell_statements ss

abbrev pub spell_block : Statements → List Token
spell_block b = sign signs.Begin ∷ (spell_statements b ++ (sign signs.End ∷ []))

-- ---- functions

-- after the opening parenthesis, with the closing one
abbrev pub spell_more_parameters : List Word → List Token
spell_more_parameters [] = sign signs.Close ∷ []
spell_more_parameters (w ∷ ws) = sign signs.Comma ∷ (word w ∷ spell_more_parameters ws)

abbrev pub spell_parameters : List Word → List Token
spell_parameters [] = sign signs.Close ∷ []
spell_parameters (w ∷ ws) = word w ∷ spell_more_parameters ws

-- after `fn`
abbrev pub spell_signature : Function → List Token
spell_signature f = word f.name ∷ (sign signs.Open ∷ (spell_parameters f.parameters ++ spell_block f.body))

abbrev pub spell_function : Function → List Token
spell_function f = sign signs.Fn ∷ spell_signature f

abbrev pub spell_functions : List Function → List Token
spell_functions [] = []
spell_functions (f ∷ fs) = spell_function f ++ spell_functions fs

-- the tokens spell the program
abbrev pub SpellsProgram : List Token → List Function → Type 0
SpellsProgram ts fs = map kept ts ≡ spell_functions fs
