-- The words of this crate, for those that use it.
pub use Rattle.cli_micro.specs.Answers.{IsRefusedText, IsUnprinted, MicroAnswers, NoPlacement, NoStore, NoText, OfStoreFile, OfText, PrintMicroAnswers}
pub use Rattle.cli_micro.specs.Reasons.{mal_reason, store_reason}
pub use Rattle.cli_micro.specs.Refused.{is_refusal, length_fixed, names_inside, no_program}
pub use Rattle.cli_micro.specs.Texts.{counts_line, listing, statement_line, store_line, word_digits}
