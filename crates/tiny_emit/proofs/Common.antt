-- The words of other crates that these proofs use.
pub use Rattle.std.proofs.Common.{Bool, List, None, Some, [], ap, append-nil, append_assoc, arith, cond, drop, get_or, length, map, neg_ℤ, not, option_map, pos}
pub use Rattle.std.proofs.Common.{refl, rules, slice_get, subst, sym, ℕ, ℤ, ⊎_elim, ◌++◌, ◌+◌, ◌-◌, ◌<◌, ◌==◌, ◌∙◌, ◌∷◌, ◌≡◌, ◌≢◌, ◌≤◌}
pub use Rattle.std.proofs.lemmas.Bool.Decides.{eqb_tells}
pub use Rattle.std.proofs.lemmas.List.{drop_all}
pub use Rattle.std.proofs.lemmas.Result.{on_ok_weaker}
pub use Rattle.std.specs.List.{enumerate_from, filter, zip}
pub use Rattle.ijvm_instr.specs.Prelude.{HasLines, Jump, distances, jumps_of}
pub use Rattle.ijvm_instr.specs.declared.instr.Instr.{Instr}
pub use Rattle.ijvm_instr.specs.declared.instr.Instr.TheVariants.{Bipush, Goto, Halt, IfIcmpeq, Iflt, Invokevirtual, Ireturn, Isub, LdcW, Pop}
pub use Rattle.ijvm_image.specs.Prelude.{header}
pub use Rattle.ijvm_program.specs.Prelude.{jump_by}
pub use Rattle.ijvm_program.specs.declared.line.Jump.TheVariants.{Ifeq}
pub use Rattle.ijvm_text.specs.Prelude.{Adds, AddsCode, AddsJump, AreUnits, IsCode, code_bytes, joined, no_code, no_parts, none, part_then, then, whole}
pub use Rattle.ijvm_text.specs.declared.text.Text.{Text}
pub use Rattle.ijvm_text.specs.declared.units.Units.{Units}
pub use Rattle.tiny_tree.specs.Prelude.{Cond, Different, Equal, Expr, Function, Less, Program, arguments_of, block_tree, cond_tree, drop_item, else_of}
pub use Rattle.tiny_tree.specs.Prelude.{expr_tree, expr_tree_out, function_tree, statement_tree, statements_of, step_tree, step_tree_out, steps_of, term_tree}
pub use Rattle.tiny_tree.specs.Prelude.{vars_of}
pub use Rattle.tiny_tree.specs.declared.tree.Operator.{Operator}
pub use Rattle.tiny_tree.specs.declared.tree.Statement.{Statement, the_lemmas}
pub use Rattle.tiny_tree.specs.declared.tree.Step.{Step, out-Step}
pub use Rattle.tiny_code.specs.Prelude.{Places, arguments_code, bytes_size, choice, code_size, distances_append, else_lined, expr_code, if_code, if_lines}
pub use Rattle.tiny_code.specs.Prelude.{layout_of, leave_code, leave_lined, leave_lines, loop, main_code, method_code, method_part, methods, operator_code}
pub use Rattle.tiny_code.specs.Prelude.{places_of, statement_code, statement_lined, statement_lines, statements_code, statements_lined, statements_lines}
pub use Rattle.tiny_code.specs.Prelude.{steps_code, term_code, test_code, test_lined, while_lines}
pub use Rattle.tiny_pool.specs.Prelude.{places_in}
pub use Rattle.tiny_emit.specs.Prelude.{AddsMain, AddsMethod, AddsMethods, AddsStatements, code_of_call, code_of_expr, jump_of, program_of}
