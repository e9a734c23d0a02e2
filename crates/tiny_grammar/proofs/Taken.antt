-- The machine takes what a tree spells.
use Rattle.tiny_grammar.proofs.Common.{◌≡◌, true, List, [], ◌∷◌, ◌++◌, refl, ap, sym, ◌∙◌, append_assoc, Some, None, Operator, Comparison, Word, Function, Term}
use Rattle.tiny_grammar.proofs.Common.{Number, Variable, Called, Get, Group, Expr, Sum, no_steps, step, no_arguments, argument, Cond, Statement, Var, Assign}
use Rattle.tiny_grammar.proofs.Common.{Calls, If, While, Return, Put, Halt, no_else, else_block, no_statements, statement, Token}
use Rattle.tiny_tree.specs.declared.tree.Operator.TheVariants as operators
use Rattle.tiny_draft.specs.declared.tree.Comparison.TheVariants as comparisons
use Rattle.tiny_draft.specs.Tree as tree
use Rattle.tiny_draft.specs.declared.token.Sign.TheVariants as signs
use Rattle.tiny_grammar.specs.Prelude.{comparison, end, operator, sign, spell_arguments, spell_block, spell_cond, spell_else, spell_expr, spell_function, spell_functions, spell_more, spell_more_parameters, spell_parameters, spell_statement, spell_statements, spell_steps, spell_term, ABlock, ACond, AnExpr, Arguments, ATerm, Compare, Functions, MaybeCall, MaybeElse, MoreArguments, MoreParameters, Parameters, Part, Statements, Steps, Want, begins, begins_call, begins_else, begins_statement, begins_steps, is_optional}
use Rattle.tiny_grammar.proofs.Runs.{steps}

skip_part : (p : Part) (ps : List Part) (k : Token) (ts : List Token) → is_optional p ≡ true → begins p k.kind ≡ None → steps (p ∷ ps) (k ∷ ts) ≡ steps ps (k ∷ ts)
skip_part p ps k ts o b = rw (b, o) refl

-- ---- parts that begin with a term

expr_first : (t : Term) (ps : List Part) (x : List Token) → steps (AnExpr ∷ ps) (spell_term t ++ x) ≡ steps (ATerm ∷ Steps ∷ ps) (spell_term t ++ x)
expr_first (Number n) ps x = refl
expr_first _ ps x = refl

arguments_first : (t : Term) (ps : List Part) (x : List Token) → steps (Arguments ∷ ps) (spell_term t ++ x) ≡ steps (ATerm ∷ Steps ∷ MoreArguments ∷ ps) (spell_term t ++ x)
arguments_first (Number n) ps x = refl
arguments_first _ ps x = refl

cond_first : (t : Term) (ps : List Part) (x : List Token) → steps (ACond ∷ ps) (spell_term t ++ x) ≡ steps (ATerm ∷ Steps ∷ Compare ∷ ps) (spell_term t ++ x)
cond_first (Number n) ps x = refl
cond_first _ ps x = refl

abbrev TakesTerm : Term → Type 0
TakesTerm t = (ps : List Part) (k : Token) (ts : List Token) → begins_call k.kind ≡ None → steps (ATerm ∷ ps) (spell_term t ++ (k ∷ ts)) ≡ steps ps (k ∷ ts)

operator_calls : (o : Operator) → begins_call (operator o).kind ≡ None
operator_calls operators.Plus = refl
operator_calls _ = refl

before_steps : (t : Term) → TakesTerm t → (ss : tree.Steps) (ps : List Part) (k : Token) (ts : List Token) → begins_call k.kind ≡ None
    → steps (ATerm ∷ ps) (spell_term t ++ (spell_steps ss ++ (k ∷ ts))) ≡ steps ps (spell_steps ss ++ (k ∷ ts))
before_steps t rec no_steps ps k ts q = rec ps k ts q
before_steps t rec (step o u ss) ps k ts q = rec ps (operator o) ((spell_term u ++ spell_steps ss) ++ (k ∷ ts)) (operator_calls o)

operator_first : (o : Operator) (ps : List Part) (x : List Token) → steps (Steps ∷ ps) (operator o ∷ x) ≡ steps (ATerm ∷ Steps ∷ ps) x
operator_first operators.Plus ps x = refl
operator_first _ ps x = refl

abbrev TakesSteps : tree.Steps → Type 0
TakesSteps ss = (ps : List Part) (k : Token) (ts : List Token) → begins_call k.kind ≡ None → begins_steps k.kind ≡ None → steps (Steps ∷ ps) (spell_steps ss ++ (k ∷ ts)) ≡ steps ps (k ∷ ts)

abbrev TakesExpr : Expr → Type 0
TakesExpr e = (ps : List Part) (k : Token) (ts : List Token) → begins_call k.kind ≡ None → begins_steps k.kind ≡ None → steps (AnExpr ∷ ps) (spell_expr e ++ (k ∷ ts)) ≡ steps ps (k ∷ ts)

first_before : (t : Term) (ss : tree.Steps) → TakesTerm t → TakesSteps ss → (ps : List Part) (k : Token) (ts : List Token) → begins_call k.kind ≡ None → begins_steps k.kind ≡ None
    → steps (Arguments ∷ ps) ((spell_term t ++ spell_steps ss) ++ (k ∷ ts)) ≡ steps (MoreArguments ∷ ps) (k ∷ ts)
first_before t ss f g ps k ts q r =
    ap (steps (Arguments ∷ ps)) (append_assoc (spell_term t) (spell_steps ss) (k ∷ ts)) ∙ (arguments_first t ps (spell_steps ss ++ (k ∷ ts))
    ∙ (before_steps t f ss (Steps ∷ MoreArguments ∷ ps) k ts q ∙ g (MoreArguments ∷ ps) k ts q r))

first_argument : (t : Term) (ss : tree.Steps) → TakesTerm t → TakesSteps ss → (es : tree.Arguments) (ps : List Part) (ts : List Token)
    → steps (MoreArguments ∷ ps) (spell_more es ++ ts) ≡ steps ps ts → steps (Arguments ∷ ps) ((spell_term t ++ spell_steps ss) ++ (spell_more es ++ ts)) ≡ steps ps ts
first_argument t ss f g no_arguments ps ts rec = first_before t ss f g ps (sign signs.Close) ts refl refl ∙ rec
first_argument t ss f g (argument d es) ps ts rec = first_before t ss f g ps (sign signs.Comma) ((spell_expr d ++ spell_more es) ++ ts) refl refl ∙ rec

next_argument : (e : Expr) → TakesExpr e → (es : tree.Arguments) (ps : List Part) (ts : List Token) → steps (MoreArguments ∷ ps) (spell_more es ++ ts) ≡ steps ps ts
    → steps (AnExpr ∷ MoreArguments ∷ ps) (spell_expr e ++ (spell_more es ++ ts)) ≡ steps ps ts
next_argument e f no_arguments ps ts rec = f (MoreArguments ∷ ps) (sign signs.Close) ts refl refl ∙ rec
next_argument e f (argument d es) ps ts rec = f (MoreArguments ∷ ps) (sign signs.Comma) ((spell_expr d ++ spell_more es) ++ ts) refl refl ∙ rec

mutual
  take_term : (t : Term) (ps : List Part) (k : Token) (ts : List Token) → begins_call k.kind ≡ None → steps (ATerm ∷ ps) (spell_term t ++ (k ∷ ts)) ≡ steps ps (k ∷ ts)
  take_term (Number n) ps k ts q = refl
  take_term (Variable w) ps k ts q = skip_part MaybeCall ps k ts refl q
  take_term (Called w es) ps k ts q = take_arguments es ps (k ∷ ts)
  take_term Get ps k ts q = refl
  take_term (Group e) ps k ts q =
      ap (steps (AnExpr ∷ Want signs.Close ∷ ps)) (append_assoc (spell_expr e) (sign signs.Close ∷ []) (k ∷ ts)) ∙ take_expr e (Want signs.Close ∷ ps) (sign signs.Close) (k ∷ ts) refl refl

  take_expr : (e : Expr) (ps : List Part) (k : Token) (ts : List Token) → begins_call k.kind ≡ None → begins_steps k.kind ≡ None
      → steps (AnExpr ∷ ps) (spell_expr e ++ (k ∷ ts)) ≡ steps ps (k ∷ ts)
  take_expr (Sum t ss) ps k ts q r =
      ap (steps (AnExpr ∷ ps)) (append_assoc (spell_term t) (spell_steps ss) (k ∷ ts)) ∙ (expr_first t ps (spell_steps ss ++ (k ∷ ts))
      ∙ (before_steps t (take_term t) ss (Steps ∷ ps) k ts q ∙ take_steps ss ps k ts q r))

  take_steps : (ss : tree.Steps) (ps : List Part) (k : Token) (ts : List Token) → begins_call k.kind ≡ None → begins_steps k.kind ≡ None
      → steps (Steps ∷ ps) (spell_steps ss ++ (k ∷ ts)) ≡ steps ps (k ∷ ts)
  take_steps no_steps ps k ts q r = skip_part Steps ps k ts refl r
  take_steps (step o t ss) ps k ts q r =
      operator_first o ps ((spell_term t ++ spell_steps ss) ++ (k ∷ ts)) ∙ (ap (steps (ATerm ∷ Steps ∷ ps)) (append_assoc (spell_term t) (spell_steps ss) (k ∷ ts))
      ∙ (before_steps t (take_term t) ss (Steps ∷ ps) k ts q ∙ take_steps ss ps k ts q r))

  take_arguments : (es : tree.Arguments) (ps : List Part) (ts : List Token) → steps (Arguments ∷ ps) (spell_arguments es ++ ts) ≡ steps ps ts
  take_arguments no_arguments ps ts = refl
  take_arguments (argument (Sum t ss) es) ps ts =
      ap (steps (Arguments ∷ ps)) (append_assoc (spell_term t ++ spell_steps ss) (spell_more es) ts) ∙ first_argument t ss (take_term t) (take_steps ss) es ps ts (take_more es ps ts)

  take_more : (es : tree.Arguments) (ps : List Part) (ts : List Token) → steps (MoreArguments ∷ ps) (spell_more es ++ ts) ≡ steps ps ts
  take_more no_arguments ps ts = refl
  take_more (argument e es) ps ts = ap (steps (AnExpr ∷ MoreArguments ∷ ps)) (append_assoc (spell_expr e) (spell_more es) ts) ∙ next_argument e (take_expr e) es ps ts (take_more es ps ts)

-- ---- conditions

take_left : (e : Expr) (ps : List Part) (k : Token) (ts : List Token) → begins_call k.kind ≡ None → begins_steps k.kind ≡ None
    → steps (ACond ∷ ps) (spell_expr e ++ (k ∷ ts)) ≡ steps (Compare ∷ ps) (k ∷ ts)
take_left (Sum t ss) ps k ts q r =
    ap (steps (ACond ∷ ps)) (append_assoc (spell_term t) (spell_steps ss) (k ∷ ts)) ∙ (cond_first t ps (spell_steps ss ++ (k ∷ ts))
    ∙ (before_steps t (take_term t) ss (Steps ∷ Compare ∷ ps) k ts q ∙ take_steps ss (Compare ∷ ps) k ts q r))

comparison_calls : (c : Comparison) → (begins_call (comparison c).kind ≡ None) × (begins_steps (comparison c).kind ≡ None)
comparison_calls comparisons.Equal = (refl, refl)
comparison_calls _ = (refl, refl)

comparison_first : (c : Comparison) (ps : List Part) (x : List Token) → steps (Compare ∷ ps) (comparison c ∷ x) ≡ steps (AnExpr ∷ ps) x
comparison_first comparisons.Equal ps x = refl
comparison_first _ ps x = refl

take_cond : (c : Cond) (ps : List Part) (k : Token) (ts : List Token) → begins_call k.kind ≡ None → begins_steps k.kind ≡ None → steps (ACond ∷ ps) (spell_cond c ++ (k ∷ ts)) ≡ steps ps (k ∷ ts)
take_cond (tree.Compare c a b) ps k ts q r =
    let n = comparison_calls c in
    ap (steps (ACond ∷ ps)) (append_assoc (spell_expr a) (comparison c ∷ spell_expr b) (k ∷ ts)) ∙ (take_left a ps (comparison c) (spell_expr b ++ (k ∷ ts)) n.0 n.1
    ∙ (comparison_first c ps (spell_expr b ++ (k ∷ ts)) ∙ take_expr b ps k ts q r))

-- ---- statements

take_value : (e : Expr) (ps : List Part) (ts : List Token) → steps (AnExpr ∷ Want signs.Semicolon ∷ ps) ((spell_expr e ++ end) ++ ts) ≡ steps ps ts
take_value e ps ts = ap (steps (AnExpr ∷ Want signs.Semicolon ∷ ps)) (append_assoc (spell_expr e) end ts) ∙ take_expr e (Want signs.Semicolon ∷ ps) (sign signs.Semicolon) ts refl refl

take_call : (es : tree.Arguments) (ps : List Part) (ts : List Token) → steps (Arguments ∷ Want signs.Semicolon ∷ ps) ((spell_arguments es ++ end) ++ ts) ≡ steps ps ts
take_call es ps ts = ap (steps (Arguments ∷ Want signs.Semicolon ∷ ps)) (append_assoc (spell_arguments es) end ts) ∙ take_arguments es (Want signs.Semicolon ∷ ps) (end ++ ts)

abbrev TakesStatement : Statement → Type 0
TakesStatement s = (ps : List Part) (k : Token) (ts : List Token) → begins_else k.kind ≡ None → steps (Statements ∷ ps) (spell_statement s ++ (k ∷ ts)) ≡ steps (Statements ∷ ps) (k ∷ ts)

abbrev TakesStatements : tree.Statements → Type 0
TakesStatements b = (ps : List Part) (k : Token) (ts : List Token) → begins_statement k.kind ≡ None → begins_else k.kind ≡ None
    → steps (Statements ∷ ps) (spell_statements b ++ (k ∷ ts)) ≡ steps ps (k ∷ ts)

-- no statement begins with `else`
before_one : (s : Statement) → TakesStatement s → (r : Statement) (ps : List Part) (x : List Token)
    → steps (Statements ∷ ps) (spell_statement s ++ (spell_statement r ++ x)) ≡ steps (Statements ∷ ps) (spell_statement r ++ x)
before_one s f (Var w e) ps x = f ps _ _ refl
before_one s f _ ps x = f ps _ _ refl

before_all : (s : Statement) → TakesStatement s → (ss : tree.Statements) (ps : List Part) (k : Token) (ts : List Token) → begins_else k.kind ≡ None
    → steps (Statements ∷ ps) (spell_statement s ++ (spell_statements ss ++ (k ∷ ts))) ≡ steps (Statements ∷ ps) (spell_statements ss ++ (k ∷ ts))
before_all s f no_statements ps k ts q = f ps k ts q
before_all s f (statement r rs) ps k ts q =
    let e = append_assoc (spell_statement r) (spell_statements rs) (k ∷ ts) in
    ap (λ x. steps (Statements ∷ ps) (spell_statement s ++ x)) e ∙ (before_one s f r ps (spell_statements rs ++ (k ∷ ts)) ∙ ap (steps (Statements ∷ ps)) (sym e))

-- after a condition
take_body : (b : tree.Statements) → TakesStatements b → (ps : List Part) (ts : List Token) → steps (ABlock ∷ ps) (spell_block b ++ ts) ≡ steps ps ts
take_body b f ps ts =
    ap (steps (Statements ∷ Want signs.End ∷ ps)) (append_assoc (spell_statements b) (sign signs.End ∷ []) ts) ∙ f (Want signs.End ∷ ps) (sign signs.End) ts refl refl

take_test : (c : Cond) (b : tree.Statements) → TakesStatements b → (ps : List Part) (ts : List Token) → steps (ACond ∷ ABlock ∷ ps) (spell_cond c ++ (spell_block b ++ ts)) ≡ steps ps ts
take_test c b f ps ts = take_cond c (ABlock ∷ ps) (sign signs.Begin) ((spell_statements b ++ (sign signs.End ∷ [])) ++ ts) refl refl ∙ take_body b f ps ts

mutual
  take_statement : (s : Statement) (ps : List Part) (k : Token) (ts : List Token) → begins_else k.kind ≡ None → steps (Statements ∷ ps) (spell_statement s ++ (k ∷ ts)) ≡ steps (Statements ∷ ps) (k ∷ ts)
  take_statement (Var w e) ps k ts q = take_value e (Statements ∷ ps) (k ∷ ts)
  take_statement (Assign w e) ps k ts q = take_value e (Statements ∷ ps) (k ∷ ts)
  take_statement (Calls w es) ps k ts q = take_call es (Statements ∷ ps) (k ∷ ts)
  take_statement (If l c b other) ps k ts q =
      ap (steps (ACond ∷ ABlock ∷ MaybeElse ∷ Statements ∷ ps)) (append_assoc (spell_cond c) (spell_block b ++ spell_else other) (k ∷ ts)
      ∙ ap (λ x. spell_cond c ++ x) (append_assoc (spell_block b) (spell_else other) (k ∷ ts)))
      ∙ (take_test c b (take_statements b) (MaybeElse ∷ Statements ∷ ps) (spell_else other ++ (k ∷ ts)) ∙ take_else other (Statements ∷ ps) k ts q)
  take_statement (While l c b) ps k ts q =
      ap (steps (ACond ∷ ABlock ∷ Statements ∷ ps)) (append_assoc (spell_cond c) (spell_block b) (k ∷ ts)) ∙ take_test c b (take_statements b) (Statements ∷ ps) (k ∷ ts)
  take_statement (Return l e) ps k ts q = take_value e (Statements ∷ ps) (k ∷ ts)
  take_statement (Put e) ps k ts q = take_value e (Statements ∷ ps) (k ∷ ts)
  take_statement Halt ps k ts q = refl

  take_else : (other : tree.Else) (ps : List Part) (k : Token) (ts : List Token) → begins_else k.kind ≡ None → steps (MaybeElse ∷ ps) (spell_else other ++ (k ∷ ts)) ≡ steps ps (k ∷ ts)
  take_else no_else ps k ts q = skip_part MaybeElse ps k ts refl q
  take_else (else_block b) ps k ts q = take_body b (take_statements b) ps (k ∷ ts)

  take_statements : (ss : tree.Statements) (ps : List Part) (k : Token) (ts : List Token) → begins_statement k.kind ≡ None → begins_else k.kind ≡ None
      → steps (Statements ∷ ps) (spell_statements ss ++ (k ∷ ts)) ≡ steps ps (k ∷ ts)
  take_statements no_statements ps k ts q r = skip_part Statements ps k ts refl (rw q refl)
  take_statements (statement s ss) ps k ts q r =
      ap (steps (Statements ∷ ps)) (append_assoc (spell_statement s) (spell_statements ss) (k ∷ ts)) ∙ (before_all s (take_statement s) ss ps k ts r ∙ take_statements ss ps k ts q r)

-- ---- functions

take_more_parameters : (ws : List Word) (ps : List Part) (ts : List Token) → steps (MoreParameters ∷ ps) (spell_more_parameters ws ++ ts) ≡ steps ps ts
take_more_parameters [] ps ts = refl
take_more_parameters (w ∷ ws) ps ts = take_more_parameters ws ps ts

take_parameters : (ws : List Word) (ps : List Part) (ts : List Token) → steps (Parameters ∷ ps) (spell_parameters ws ++ ts) ≡ steps ps ts
take_parameters [] ps ts = refl
take_parameters (w ∷ ws) ps ts = take_more_parameters ws ps ts

take_function : (f : Function) (ts : List Token) → steps (Functions ∷ []) (spell_function f ++ ts) ≡ steps (Functions ∷ []) ts
take_function f ts =
    ap (steps (Parameters ∷ ABlock ∷ Functions ∷ [])) (append_assoc (spell_parameters f.parameters) (spell_block f.body) ts)
    ∙ (take_parameters f.parameters (ABlock ∷ Functions ∷ []) (spell_block f.body ++ ts) ∙ take_body f.body (take_statements f.body) (Functions ∷ []) ts)

pub take_program : (fs : List Function) → steps (Functions ∷ []) (spell_functions fs) ≡ Some (Functions ∷ [])
take_program [] = refl
take_program (f ∷ fs) = take_function f (spell_functions fs) ∙ take_program fs
