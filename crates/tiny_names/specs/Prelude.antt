-- The words of this crate, for those that use it.
pub use Rattle.tiny_names.specs.Faults.{all_faults, argument_faults, block_faults, body_faults, call_by, call_faults, cond_faults, count, declare_faults, else_faults, expr_faults, faults_from, first, function_faults, main_faults, own_faults, parameter_faults, return_faults, statement_faults, step_faults, term_faults, use_faults}
pub use Rattle.tiny_names.specs.Names.{all_names, called, called_from, else_names, has, is_main, lookup, name_of, shows}
pub use Rattle.tiny_names.specs.Resolved.{arguments, expr, function_names, function_of, function_place, otherwise, place_in, resolved, statement, statements, steps, term}
pub use Rattle.tiny_names.specs.Unresolved.{IsFirst}
pub use Rattle.tiny_names.specs.View.{program_tree}
