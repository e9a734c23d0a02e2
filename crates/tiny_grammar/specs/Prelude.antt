-- The words of this crate, for those that use it.
pub use Rattle.tiny_grammar.specs.Grammar.{SpellsProgram, bare, comparison, end, kept, kept_line, operator, sign, sign_at, spell_arguments, spell_block, spell_cond, spell_else, spell_expr, spell_function, spell_functions, spell_more, spell_more_parameters, spell_parameters, spell_signature, spell_statement, spell_statements, spell_steps, spell_term, word}
pub use Rattle.tiny_grammar.specs.Machine.{ABlock, ACond, AName, AStatement, ATerm, AfterName, AnExpr, Arguments, Compare, Functions, MaybeCall, MaybeElse, MoreArguments, MoreParameters, Outcome, Parameters, Part, Statements, Steps, Want, before, begins, begins_after_name, begins_arguments, begins_block, begins_call, begins_compare, begins_else, begins_functions, begins_more, begins_more_parameters, begins_parameters, begins_statement, begins_steps, begins_term, comparison_of, fault, fault_by, follow, go_on, is_name, is_number, is_optional, is_sign, operator_of, or_skip, signature, spent, take_on, value}
unfoldable pub use Rattle.tiny_grammar.specs.Machine.{walk}
pub use Rattle.tiny_grammar.specs.Parts.{AreProgram}
pub use Rattle.tiny_grammar.specs.Reads.{ComparisonAt, HoldsNoBlock, Moves, NameAt, NumberAt, OperatorAt, Reads, ReadsAll, Says, Sees, Skips, Stops}
pub use Rattle.tiny_grammar.specs.Refusals.{Begins, Closes, IsCutShort, IsReason, IsRefused, IsRefusedAt, IsShallow, MayTurn, Opens, Stays, Turn, left, left_by, turn}
pub use Rattle.tiny_grammar.specs.Tokens.{first_kind, first_line, rank}
