-- The words of this crate, for those that use it.
pub use Rattle.mal_line.specs.Chains.{HasCoding, IsAssignment, LoadsNamed, bit, dest_bits, dest_tokens, is_dest, is_expr, is_expr_word, is_filled, register_word, tail_tokens}
pub use Rattle.mal_line.specs.Expressions.{IsCoded, IsOneOf, fits, minus, one_token, other_spellings, part_with, plus, side, source_word, spelling, spellings, tail_with, zero_token}
pub use Rattle.mal_line.specs.Lines.{HasPart, IsForm, IsRefused, SpellsLine, content_of, is_foreign, is_foreign_word, names_foreign, next_by_jump, part_by, part_of, parts_by, parts_of, with_access}
pub use Rattle.mal_line.specs.Lookup.{checked, coding_of, from_one_source, is_number, joined, on_a, operand_by, operand_of, operation_in, paired, prefixed, shift_of, single, source_of, sum_and_one, with_shift, work}
pub use Rattle.mal_line.specs.Reading.{LinesReadAsSpelled, LinesRefusedAsFaulty, add, add_after, add_by, add_else, add_free, add_tokens, assigned, after_colon, by_offset, dest_of, dispatch, else_of, empty, ended, fix_of, form_of, gathered_jump, goto_of, if_of, is_access, labelled, last, on_dest, piece_of, said, said_by, shifting, tail_of, test_of, tree_of}
unfoldable pub use Rattle.mal_line.specs.Reading.{adds, chain_at, line_from}
pub use Rattle.mal_line.specs.Statements.{AreNothing, AreParts, AreTree, IsElse, IsFetch, IsGoto, IsIf, IsJumpLast, IsMem, Kind, assign, assignments, counted, fetch_count, fetches, is_byte_word, is_semicolon, jump, jumps_of, listed, listed_mem, memories, memory, nothing, pieces, test_word}
pub use Rattle.mal_line.specs.Targets.{EachTarget, by_targets}
