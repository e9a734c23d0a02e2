-- The words of this crate, for those that use it.
pub use Rattle.micro_terms.specs.Environment.{Environment}
pub use Rattle.micro_terms.specs.Meaning.{Fits, Grows, Holds, IsNode, word_of_kind}
pub use Rattle.micro_terms.specs.Ordered.{AreOrdered, HasEnvironments, NamesBelow, NamesKindBelow, NamesSumBelow}
pub use Rattle.micro_terms.specs.Ranges.{IsIn, IsWithin}
unfoldable pub use Rattle.micro_terms.specs.Ranges.{end_of, share, side}
pub use Rattle.micro_terms.specs.Value.{weight}
unfoldable pub use Rattle.micro_terms.specs.Value.{value}
