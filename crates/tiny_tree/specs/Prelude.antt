-- The words of this crate, for those that use it.
pub use Rattle.tiny_tree.specs.Meaning.{CallResults, Cut, Cuts, Ended, Flow, Gives, GoesOn, Halts, Meaning, Result, Returns, TinyWorld, Variables, and_then, at_end, call, combine, compare, either_side, ending, evaluate, evaluate_arguments, evaluate_cond, evaluate_steps, evaluate_term, execute, execute_all, execute_body, execute_else, first_variables, in_turn, meaning, repeat, returned, start_world, unless_returned, with_value}
pub use Rattle.tiny_tree.specs.Named.{AreNamed, AreNamedArguments, AreNamedSteps, IsCallable, IsNamed, IsNamedCond, IsNamedElse, IsNamedExpr, IsNamedFunction, IsNamedStatement, IsNamedTerm, Seen, arguments_count, names_count, parameters_seen, seen_after, seen_with, vars_in, vars_of, vars_of_else}
pub use Rattle.tiny_tree.specs.Outs.{drop_item, expr_tree_out, step_tree_out}
pub use Rattle.tiny_tree.specs.Tree.{Arguments, Assign, Called, Calls, Cond, Different, Else, Equal, Expr, Function, Get, Group, Halt, If, Less, Number, Program, Put, Return, Statement, Statements, Steps, Sum, Term, Var, Variable, While, argument, arguments_of, else_block, else_of, no_arguments, no_else, no_statements, no_steps, statement, statements_of, step, steps_of}
pub use Rattle.tiny_tree.specs.View.{block_tree, cond_tree, expr_tree, function_tree, statement_tree, step_tree, term_tree}
