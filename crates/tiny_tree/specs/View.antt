-- The plain tree of a value of the program, whatever place in memory its parts have.
use Rattle.std.specs.Prelude.{map}
use Rattle.tiny_tree.specs.declared.tree.Operator.{Operator}
use Rattle.tiny_tree.specs.declared.tree.Term.{Term, fold-Term}
use Rattle.tiny_tree.specs.declared.tree.Term.TheOpen.{Term-F, Expr-F, Step-F}
use Rattle.tiny_tree.specs.declared.tree.Expr.{Expr, fold-Expr}
use Rattle.tiny_tree.specs.declared.tree.Step.{Step, fold-Step}
use Rattle.tiny_tree.specs.declared.tree.Cond.{Cond}
use Rattle.tiny_tree.specs.declared.tree.Cond.TheVariants as conds
use Rattle.tiny_tree.specs.declared.tree.Statement.{Statement, fold-Statement}
use Rattle.tiny_tree.specs.declared.tree.Block.{Block, fold-Block}
use Rattle.tiny_tree.specs.declared.tree.Function.{Function}
use Rattle.tiny_tree.specs.declared.tree.Statement.TheOpen.{Statement-F, Block-F}
use Rattle.tiny_tree.specs.Tree as tree
use Rattle.tiny_tree.specs.Tree.{arguments_of, else_of, statements_of, steps_of}

-- ---- one level, with each part already seen as its tree

abbrev pub term_level : Term-F tree.Term tree.Expr (Operator × tree.Term) → tree.Term
term_level (Term-F.Number n) = tree.Number n
term_level (Term-F.Variable x) = tree.Variable x
term_level (Term-F.Call f es) = tree.Called f (arguments_of es)
term_level Term-F.Get = tree.Get
term_level (Term-F.Group e) = tree.Group e.value

abbrev pub expr_level : Expr-F tree.Term tree.Expr (Operator × tree.Term) → tree.Expr
expr_level e = tree.Sum e.first (steps_of e.rest)

abbrev pub step_level : Step-F tree.Term tree.Expr (Operator × tree.Term) → Operator × tree.Term
step_level s = (s.operator, s.term)

-- ---- the tree

abbrev pub term_tree : Term → tree.Term
term_tree = fold-Term tree.Term tree.Expr (Operator × tree.Term) term_level expr_level step_level

abbrev pub expr_tree : Expr → tree.Expr
expr_tree = fold-Expr tree.Term tree.Expr (Operator × tree.Term) term_level expr_level step_level

abbrev pub step_tree : Step → Operator × tree.Term
step_tree = fold-Step tree.Term tree.Expr (Operator × tree.Term) term_level expr_level step_level

abbrev pub cond_tree : Cond → tree.Cond
cond_tree (conds.Equal a b) = tree.Equal (expr_tree a) (expr_tree b)
cond_tree (conds.Different a b) = tree.Different (expr_tree a) (expr_tree b)
cond_tree (conds.Less a b) = tree.Less (expr_tree a) (expr_tree b)

abbrev pub statement_level : Statement-F tree.Statement tree.Statements → tree.Statement
statement_level (Statement-F.Var x e) = tree.Var x (expr_tree e)
statement_level (Statement-F.Assign x e) = tree.Assign x (expr_tree e)
statement_level (Statement-F.Call f es) = tree.Calls f (arguments_of (map expr_tree es))
statement_level (Statement-F.If l c b other) = tree.If l (cond_tree c) b (else_of other)
statement_level (Statement-F.While l c b) = tree.While l (cond_tree c) b
statement_level (Statement-F.Return e) = tree.Return (expr_tree e)
statement_level (Statement-F.Put e) = tree.Put (expr_tree e)
statement_level Statement-F.Halt = tree.Halt

abbrev pub block_level : Block-F tree.Statement tree.Statements → tree.Statements
block_level b = statements_of b.statements

abbrev pub statement_tree : Statement → tree.Statement
statement_tree = fold-Statement tree.Statement tree.Statements statement_level block_level

abbrev pub block_tree : Block → tree.Statements
block_tree = fold-Block tree.Statement tree.Statements statement_level block_level

abbrev pub function_tree : Function → tree.Function
function_tree f = record { parameters = f.parameters; body = block_tree f.body }
