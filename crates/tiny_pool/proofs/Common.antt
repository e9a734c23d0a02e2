-- The words of other crates that these proofs use.
pub use mathlib.Core.Path.{fun_ext}
pub use Rattle.std.proofs.Common.{Bool, Equal, Greater, Less, List, None, Option, Some, [], ap, append-nil, append_assoc, arith, cond, drop, eq-eqb, eqb-true}
pub use Rattle.std.proofs.Common.{false, get_or, is_some, length, length-append, map, nat_lt, not, option_map, refl, rules, slice_get, subst, suc, sym, true, ℕ}
pub use Rattle.std.proofs.Common.{⊎_elim, ◌++◌, ◌+◌, ◌<◌, ◌==◌, ◌||◌, ◌∙◌, ◌∷◌, ◌≡◌}
pub use Rattle.std.proofs.lemmas.List.{drop_all, length-map, length_push}
pub use Rattle.std.proofs.lemmas.List.Elements.{filter-append}
pub use Rattle.std.proofs.lemmas.Option.{slice_get_within}
pub use Rattle.std.proofs.lemmas.Result.{on_ok_weaker}
pub use Rattle.std.specs.BTreeMap.{get, is_at}
pub use Rattle.std.specs.List.{filter, flat_map, list_any, position_or_len}
pub use Rattle.std.specs.Ordering.{is_eq, nat_cmp}
pub use Rattle.ijvm_text.specs.Prelude.{Part, begins, length-begins, pool_of}
pub use Rattle.tiny_tree.specs.Prelude.{Program, arguments_of, block_tree, cond_tree, drop_item, else_of, expr_tree, expr_tree_out, function_tree}
pub use Rattle.tiny_tree.specs.Prelude.{statement_tree, statements_of, step_tree, step_tree_out, steps_of, term_tree}
pub use Rattle.tiny_tree.specs.declared.tree.Expr.{Expr, out-Expr}
pub use Rattle.tiny_tree.specs.declared.tree.Function.{Function}
pub use Rattle.tiny_tree.specs.declared.tree.Statement.{Statement, the_lemmas}
pub use Rattle.tiny_tree.specs.declared.tree.Step.{Step, out-Step}
pub use Rattle.tiny_code.specs.Prelude.{Places, arguments_numbers, expr_numbers, from_main, function_numbers, layout_of, method_part, methods, numbers, once}
pub use Rattle.tiny_code.specs.Prelude.{places_of, statement_numbers, statements_numbers, steps_numbers, term_numbers}
pub use Rattle.tiny_pool.specs.Prelude.{Adds, HasSeen, IsTableOf, or_else, place_from}
pub use Rattle.tiny_pool.specs.declared.constants.Constants.{Constants}
pub use Rattle.tiny_pool.specs.declared.table.Table.{Table}
