-- The words of this crate, for those that use it.
pub use Rattle.cli_words.specs.Given.{AreNewAfter, IsGiven, IsNew}
pub use Rattle.cli_words.specs.Reading.{Entry, Form, Look, NextWord, Rest, Text, add, any, dashes, has, is_complete, is_filled, is_in, is_value, long, look, look_after_one, look_after_two, only_plain, option_name, option_value, plain, read_any, read_end, read_flag, read_long, read_option, read_plain, read_word, reads, short, text_in, value}
unfoldable pub use Rattle.cli_words.specs.Reading.{read}
pub use Rattle.cli_words.specs.Spelled.{Apart, ArePlain, Dashes, Flag, IsLine, IsNameOf, IsSpelled, IsSpelledBy, Joined, Piece, Plain, entries, has_equals, plain_names, written}
pub use Rattle.cli_words.specs.Table.{AreTableRows, IsRowOf, form_for, name_for, named_in, row_for}
pub use Rattle.cli_words.specs.Taking.{HoldsGiven, TakesAs, app_for, bare, bytes_of, form_of, rules_in, texts_of, with_rules}
pub use Rattle.cli_words.specs.Words.{Asked, Cache, HasLimits, Reference, Run, Tiny, asked, asked_by, asked_of, is_true, machine_of, request_of}
