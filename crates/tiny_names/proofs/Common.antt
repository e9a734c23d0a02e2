-- The words of other crates that these proofs use.
pub use mathlib.Core.Path.{fun_ext}
pub use Rattle.std.proofs.Common.{List, None, Option, Some, [], ap, arith, drop, get_or, length, map, refl, subst, sym, take, take_all, ℕ, ◌++◌, ◌+◌, ◌-◌, ◌<◌}
pub use Rattle.std.proofs.Common.{◌∙◌, ◌∷◌, ◌≡◌, ◌≤◌}
pub use Rattle.std.proofs.lemmas.List.{drop_all}
pub use Rattle.std.proofs.lemmas.Result.{err_from_is_err_and}
pub use Rattle.tiny_tree.specs.Prelude.{arguments_of, drop_item, expr_tree, function_tree, statement_tree, step_tree, steps_of}
pub use Rattle.tiny_tree.specs.declared.tree.Operator.{Operator}
pub use Rattle.tiny_draft.specs.declared.tree.Block.{Block, out-Block}
pub use Rattle.tiny_draft.specs.declared.tree.Expr.{Expr}
pub use Rattle.tiny_draft.specs.declared.tree.Expr.TheFolds.{fold_out-Step}
pub use Rattle.tiny_draft.specs.declared.tree.Function.{Function}
pub use Rattle.tiny_draft.specs.declared.tree.Statement.{Statement}
pub use Rattle.tiny_draft.specs.declared.tree.Statement.TheFolds.{fold_out-Block}
pub use Rattle.tiny_draft.specs.declared.tree.Step.{Step, out-Step}
pub use Rattle.tiny_names.specs.Prelude.{IsFirst, all_faults, all_names, argument_faults, arguments, block_faults, called, called_from, count, expr}
pub use Rattle.tiny_names.specs.Prelude.{expr_faults, faults_from, first, function_faults, function_of, function_place, lookup, main_faults, name_of}
pub use Rattle.tiny_names.specs.Prelude.{parameter_faults, resolved, statement, statements, step_faults, steps, term, term_faults}
pub use Rattle.tiny_names.specs.declared.fault.Fault.{Fault}
pub use Rattle.tiny_names.specs.declared.fault.Unresolved.{Unresolved}
pub use Rattle.tiny_names.specs.declared.functions.Signature.{Signature}
