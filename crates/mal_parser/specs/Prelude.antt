-- The words of this crate, for those that use it.
pub use Rattle.mal_parser.specs.Labels.{AreDistinct, address_of, fix_labels, fixed_label, has_fix, has_label, has_name, is_among, labels_of, own_label}
pub use Rattle.mal_parser.specs.Program.{HasTargets, IsFallback, IsLabelled, IsMalProgram, IsStatement, MalView, label_at}
pub use Rattle.mal_parser.specs.ProgramText.{by_labels, canonical_lines, canonical_text, default_line, fallback_of, fix_count, fix_line, labelled_line, on_line, on_lines, parts_text, placed_text, relined, statement_text, text_of}
pub use Rattle.mal_parser.specs.Reading.{IsDraft, IsSound, ReadsLines, Sketch, add_content, add_fix, address_at, by_entry, by_falling, by_unknown, earlier, empty, falling, first, first_falling, first_unknown, fixed_of, knows, main1, number_of, parser, program_with, resolved, resolved_next, sketch_of, step, target_number, unknown_draft, unknown_fix, unknown_in}
unfoldable pub use Rattle.mal_parser.specs.Reading.{resolved_program}
pub use Rattle.mal_parser.specs.Text.{AreAddresses, AreRefused, AreResolved, FallsOff, IsAt, IsFine, IsFirst, IsFixedBy, IsMisfit, IsProgramOf, IsRefused, IsResolved, IsResolvedNext, NamesUnknown, Never, SpellsProgram, fallbacks, fallbacks_from, falls, falls_off, fixes, fixes_from, grammar, is_memory, is_statement, names_unknown, statements, statements_from, targets_of}
