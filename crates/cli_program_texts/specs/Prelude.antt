-- The words of this crate, for those that use it.
pub use Rattle.cli_program_texts.specs.Listing.{AreListingLines, Instruction, IsLineAt, Lists, constant_line, instr_line, pool_text}
pub use Rattle.cli_program_texts.specs.Refusals.{image_reason, link_reason, source_reason, verify_reason}
pub use Rattle.cli_program_texts.specs.Summary.{Summarizes, sizes}
