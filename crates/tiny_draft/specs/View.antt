-- The plain tree of a value of the program, whatever place in memory its parts have.
use Rattle.std.specs.Prelude.{ℕ, map}
use Rattle.tiny_tree.specs.declared.tree.Operator.{Operator}
use Rattle.tiny_draft.specs.declared.tree.Word.{Word}
use Rattle.tiny_draft.specs.declared.tree.Term.{Term, fold-Term}
use Rattle.tiny_draft.specs.declared.tree.Expr.TheOpen.{Expr-F, Term-F, Call-F, Step-F, Sum-F}
use Rattle.tiny_draft.specs.declared.tree.Expr.{Expr, fold-Expr}
use Rattle.tiny_draft.specs.declared.tree.Sum.{Sum, fold-Sum}
use Rattle.tiny_draft.specs.declared.tree.Step.{Step, fold-Step}
use Rattle.tiny_draft.specs.declared.tree.Cond.{Cond}
use Rattle.tiny_draft.specs.declared.tree.Statement.{Statement, fold-Statement}
use Rattle.tiny_draft.specs.declared.tree.Block.{Block, fold-Block}
use Rattle.tiny_draft.specs.declared.tree.Function.{Function}
use Rattle.tiny_draft.specs.declared.tree.Statement.TheOpen.{Statement-F, Block-F, Branches-F}
use Rattle.tiny_draft.specs.Tree as tree
use Rattle.tiny_draft.specs.Tree.{argument, arguments_of, else_of, no_arguments, no_steps, statements_of, steps_of}

abbrev pub at : ℕ → ℕ → Word
at name line = record { name = name; line = line }

-- ---- one level, with each part already seen as its tree

abbrev pub term_level : Term-F tree.Expr tree.Term tree.Term (Operator × tree.Term) tree.Expr → tree.Term
term_level (Term-F.Number n) = tree.Number n
term_level (Term-F.Variable n l) = tree.Variable (at n l)
term_level (Term-F.Call c) = c.value
term_level Term-F.Get = tree.Get
term_level (Term-F.Group e) = tree.Group e.value

abbrev pub call_level : Call-F tree.Expr tree.Term tree.Term (Operator × tree.Term) tree.Expr → tree.Term
call_level c = tree.Called (at c.name c.line) (arguments_of c.arguments)

abbrev pub expr_level : Expr-F tree.Expr tree.Term tree.Term (Operator × tree.Term) tree.Expr → tree.Expr
expr_level (Expr-F.Alone t) = tree.Sum t no_steps
expr_level (Expr-F.Sum s) = s.value

abbrev pub sum_level : Sum-F tree.Expr tree.Term tree.Term (Operator × tree.Term) tree.Expr → tree.Expr
sum_level s = tree.Sum s.first (steps_of s.rest)

abbrev pub step_level : Step-F tree.Expr tree.Term tree.Term (Operator × tree.Term) tree.Expr → Operator × tree.Term
step_level s = (s.operator, s.term)

-- ---- the tree

abbrev pub term_tree : Term → tree.Term
term_tree = fold-Term tree.Expr tree.Term tree.Term (Operator × tree.Term) tree.Expr expr_level term_level call_level step_level sum_level

abbrev pub expr_tree : Expr → tree.Expr
expr_tree = fold-Expr tree.Expr tree.Term tree.Term (Operator × tree.Term) tree.Expr expr_level term_level call_level step_level sum_level

abbrev pub sum_tree : Sum → tree.Expr
sum_tree = fold-Sum tree.Expr tree.Term tree.Term (Operator × tree.Term) tree.Expr expr_level term_level call_level step_level sum_level

abbrev pub step_tree : Step → Operator × tree.Term
step_tree = fold-Step tree.Expr tree.Term tree.Term (Operator × tree.Term) tree.Expr expr_level term_level call_level step_level sum_level

abbrev pub cond_tree : Cond → tree.Cond
cond_tree c = tree.Compare c.comparison (expr_tree c.left) (expr_tree c.right)

abbrev pub statement_level : Statement-F tree.Statement tree.Statements (tree.Statements × tree.Else) → tree.Statement
statement_level (Statement-F.Var n l e) = tree.Var (at n l) (expr_tree e)
statement_level (Statement-F.Assign n l e) = tree.Assign (at n l) (expr_tree e)
statement_level (Statement-F.Call n l es) = tree.Calls (at n l) (arguments_of (map expr_tree es))
statement_level (Statement-F.CallWithOne n l e) = tree.Calls (at n l) (argument (expr_tree e) no_arguments)
statement_level (Statement-F.If l c b) = tree.If l (cond_tree c.value) b.value.0 b.value.1
statement_level (Statement-F.While l c b) = tree.While l (cond_tree c.value) b
statement_level (Statement-F.Return l e) = tree.Return l (expr_tree e)
statement_level (Statement-F.Put e) = tree.Put (expr_tree e)
statement_level Statement-F.Halt = tree.Halt

abbrev pub branches_level : Branches-F tree.Statement tree.Statements (tree.Statements × tree.Else) → tree.Statements × tree.Else
branches_level b = (b.taken, else_of b.otherwise)

abbrev pub block_level : Block-F tree.Statement tree.Statements (tree.Statements × tree.Else) → tree.Statements
block_level b = statements_of b.statements

abbrev pub statement_tree : Statement → tree.Statement
statement_tree = fold-Statement tree.Statement tree.Statements (tree.Statements × tree.Else) statement_level block_level branches_level

abbrev pub block_tree : Block → tree.Statements
block_tree = fold-Block tree.Statement tree.Statements (tree.Statements × tree.Else) statement_level block_level branches_level

abbrev pub function_tree : Function → tree.Function
function_tree f = record { name = f.name; parameters = f.parameters; body = block_tree f.body }
