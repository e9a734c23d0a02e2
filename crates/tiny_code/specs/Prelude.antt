-- The words of this crate, for those that use it.
pub use Rattle.tiny_code.specs.Code.{Places, arguments_code, arguments_numbers, choice, code_size, cond_numbers, else_code, else_numbers, expr_code, expr_numbers, function_numbers, if_code, large, leave_code, loop, main_code, method_code, method_size, methods, number_code, numbers, once, operator_code, places_of, statement_code, statement_numbers, statements_code, statements_numbers, steps_code, steps_numbers, term_code, term_numbers, test_code, test_jump}
pub use Rattle.tiny_code.specs.Image.{IsCodeOf, IsCoded, else_lines, if_lines, layout_of, leave_lines, main_part, method_part, statement_lines, statements_lines, while_lines}
pub use Rattle.tiny_code.specs.Laid.{AreMethodsAt, CodeAt, HasNumbers, Holds, IsLaidOut, IsMethodAt}
pub use Rattle.tiny_code.specs.Lined.{distances_append, else_lined, leave_lined, main_lined, method_lined, statement_lined, statements_lined, test_lined}
pub use Rattle.tiny_code.specs.Others.{AreEntries, apart, entry, from_main}
pub use Rattle.tiny_code.specs.Standing.{all_back, all_front, back_at, backward, bytes_size, forward, front_at, size_append}
