-- The words of other crates that this one uses.
pub use Rattle.std.specs.List.{cons_option, filter_map, list_all, list_any}
pub use Rattle.std.specs.Str.{bytes_eq}
pub use Rattle.mic_words.specs.declared.machine.Machine.{Machine}
pub use Rattle.source_text.specs.Prelude.{AtMostOneProgram, AtMostOneRefusal, Grammar, IsReadAsSpelled, LineRefusals, NeverBoth, Parser, Step, add_said, is_taken, place_of}
pub use Rattle.micro_word.specs.Prelude.{is_next, is_part, is_valid}
pub use Rattle.micro_word.specs.declared.statement.Placed.{Placed}
pub use Rattle.micro_word.specs.declared.statement.PlacedNext.{PlacedNext}
pub use Rattle.mal_tokens.specs.Prelude.{IsLabelText, mal, read}
pub use Rattle.mal_tokens.specs.declared.token.Token.{Token}
pub use Rattle.mal_line.specs.Prelude.{EachTarget, HasPart, LinesReadAsSpelled, LinesRefusedAsFaulty, by_targets, line_from}
pub use Rattle.mal_line.specs.declared.content.Content.{Content}
pub use Rattle.mal_line.specs.declared.content.Parts.{Parts}
pub use Rattle.mal_line.specs.declared.line.LineFault.{LineFault}
pub use Rattle.mal_line.specs.declared.next.Next.{Next}
pub use Rattle.mal_print.specs.Prelude.{fallback, fix, or_semicolon, parts, printed, statement}
