-- The words of this crate, for those that use it.
pub use Rattle.tiny_draft.specs.Branches.{branches_tree, else_tree}
pub use Rattle.tiny_draft.specs.Tree.{Arguments, Assign, Called, Calls, Compare, Cond, Else, Expr, Function, Get, Group, Halt, If, Number, Put, Return, Statement, Statements, Steps, Sum, Term, Var, Variable, While, argument, arguments_of, else_block, no_arguments, no_else, no_statements, no_steps, statement, statements_of, step, steps_of}
pub use Rattle.tiny_draft.specs.View.{at, block_level, block_tree, branches_level, call_level, cond_tree, expr_level, expr_tree, function_tree, statement_level, statement_tree, step_level, step_tree, sum_level, sum_tree, term_level, term_tree}
