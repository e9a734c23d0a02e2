-- The words of this crate, for those that use it.
pub use Rattle.source_text.specs.Found.{item_found, place_below, some_place}
pub use Rattle.source_text.specs.Content.{begins_comment, contents, without_comment}
pub use Rattle.source_text.specs.Fronts.{ends_all, run_all, run_passes, run_stops}
pub use Rattle.source_text.specs.Lexed.{cut_at, lex_blank, lex_token}
pub use Rattle.source_text.specs.Options.{bound, chosen, find_passes, mapped}
pub use Rattle.source_text.specs.Parsing.{Agrees, IsReadAsSpelled, Makes, Parser, add_read, add_said, step}
pub use Rattle.source_text.specs.Parts.{before_more, parts}
pub use Rattle.source_text.specs.Places.{is_called, is_taken, place_again, place_of, place_of_name}
unfoldable pub use Rattle.source_text.specs.Reading.{lex, read}
pub use Rattle.source_text.specs.Runs.{begins_with, ends_with, quote_len}
pub use Rattle.source_text.specs.Spelled.{ByTable, by_table, name_dark, named, not_of_name}
pub use Rattle.source_text.specs.Table.{GoesOn, MayEnd, Table, begins_number, extent, front_of, is_pair, reach, token_of}
pub use Rattle.source_text.specs.Text.{AtMostOneProgram, AtMostOneRefusal, Grammar, IsRefused, IsRefusedAfter, LineRefusals, NeverBoth, SayAll, SaysLine, SpellsProgram}
pub use Rattle.source_text.specs.Tokens.{AreBlank, EndsLexeme, IsLexeme, Spells, is_blank}
pub use Rattle.source_text.specs.Walk.{FailsBy, FirstRefused, Leads, StaysBy, Step, StopsAt, StopsBy, go_on}
unfoldable pub use Rattle.source_text.specs.Walk.{walk}
