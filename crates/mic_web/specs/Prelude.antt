-- The words of this crate, for those that use it.
pub use Rattle.mic_web.specs.Called.{DoesNotFit, IsMade, IsTold, IsUnfitAfter}
pub use Rattle.mic_web.specs.Given.{stretch}
pub use Rattle.mic_web.specs.Seen.{seen}
pub use Rattle.mic_web.specs.Written.{AreFiles, AreRows, AreTooMany, IsRow, IsRowOf, file_size}
