-- The words of this crate, for those that use it.
pub use Rattle.mic1_checker.specs.Checked.{CheckedView, IsChecked, checked_with, reading}
pub use Rattle.mic1_checker.specs.Ready.{IsReadyInWords}
