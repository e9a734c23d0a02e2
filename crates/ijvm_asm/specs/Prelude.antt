-- The words of this crate, for those that use it.
pub use Rattle.ijvm_asm.specs.Adding.{IsRead, ReadsLines, add_code, add_constant, add_instruction, add_line, add_mark, add_method, begin_constants, begin_locals, begin_main, end_main, end_method, gather, is_declared, method_by, on_local, parser, said_next, step, with_unit}
pub use Rattle.ijvm_asm.specs.Drafts.{DraftView, RefusesBy, begun, is_memory}
pub use Rattle.ijvm_asm.specs.Making.{AreConstants, Declarations, SectionAdds, SectionsDeclare, defined}
pub use Rattle.ijvm_asm.specs.Names.{IsLineOf, IsLocal, IsLowest, IsProgramOf, IsUnitOf, IsUnknownAt, IsUnknownIn, IsUnknownLine, NamesNone, NamesUnknown, Pairwise, StandsFor, all_units, constants_of, first_index, labels_of}
pub use Rattle.ijvm_asm.specs.ReadingNames.{by_main, by_missing, by_unknown, index_of, label_of, lines_from, lower, missing, missing_at, operation_of, or_line, or_no_main, program_with, unit_of, unit_with, units_from, unknown, unknown_lines, unknown_main, unknown_units}
unfoldable pub use Rattle.ijvm_asm.specs.ReadingNames.{whole_program}
pub use Rattle.ijvm_asm.specs.Refusals.{IsFront, IsMisfit, IsReason, StandsAt, names_following, open_lines, open_names, opened_by}
pub use Rattle.ijvm_asm.specs.Said.{BlankAt, Codes, Declares, Defines, Dotted, Heads, Lists, Said, Says, line_meant, place_of, said_at}
pub use Rattle.ijvm_asm.specs.Sections.{Between, Body, CodeItem, Constants, Locals, Main, Method, Section, body_lines, code_line, constant_line, lines_of, local_line, locals_lines, section_lines}
pub use Rattle.ijvm_asm.specs.Source.{Source, declarations_of, empty}
pub use Rattle.ijvm_asm.specs.Text.{AreRefused, IsRefused, IsSource, SpellsProgram, grammar}
pub use Rattle.ijvm_asm.specs.Units.{AreLocals, AreNew, MakesUnit, after_instruction, code_from, declared, labels_in, lines_in, locals_in, positions_in, waits, waits_after, with_instruction, with_label, with_position}
