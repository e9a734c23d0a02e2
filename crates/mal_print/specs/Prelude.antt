-- The words of this crate, for those that use it.
pub use Rattle.mal_print.specs.Lines.{FallbacksAreReadBack, FixesAreReadBack, IsLineOf, StatementsAreReadBack}
pub use Rattle.mal_print.specs.Printed.{address_of, is_open, is_spaced, is_spacing, is_wordy, number_text, number_width, printed, printed_after, token_text, token_width, width}
pub use Rattle.mal_print.specs.StatementText.{HasLabels, all_dests, assignment, beside, byte_word, chain, dests_of, fallback, fetches, fix, has_dest, heads, is_absent, is_nothing, is_plain, is_unshifted, is_zero, labelled, leads, memory, or_semicolon, parts, statement, tested, value}
