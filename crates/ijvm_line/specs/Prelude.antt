-- The words of this crate, for those that use it.
pub use Rattle.ijvm_line.specs.Forms.{IsCode, IsForm}
pub use Rattle.ijvm_line.specs.Lines.{IsRefused, SpellsLine, content_of}
pub use Rattle.ijvm_line.specs.Mnemonics.{IsOfKind, IsSpelled, find_kind, kind_of, spelled_in}
pub use Rattle.ijvm_line.specs.Parameters.{list_tokens, method_tokens, more_tokens, name_of, parameters}
pub use Rattle.ijvm_line.specs.Places.{mark_place, mark_sign}
pub use Rattle.ijvm_line.specs.Ranges.{access_instr, addend, byte, in_range, increment_by, increment_instr, index, instruction_of, made, number, word}
pub use Rattle.ijvm_line.specs.Reading.{LinesReadAsSpelled, LinesRefusedAsFaulty, code, constant_of, form_of, is_close, is_list, is_more, is_open, labelled, local_of, mark_at, mark_of, method_of, named, operand_of, said_by, signed, statement_by, statement_of, unlabelled, wide, wide_by, with_label}
unfoldable pub use Rattle.ijvm_line.specs.Reading.{line_from}
pub use Rattle.ijvm_line.specs.Statements.{Begins, IsStatement, operand_token}
