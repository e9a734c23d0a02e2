-- The words of this crate, for those that use it.
pub use Rattle.verifier_reach.specs.Places.{get_set_other, get_set_same, method_inside}
pub use Rattle.verifier_reach.specs.Search.{Grows, IsChecked, IsClosed, IsDecided, IsDone, IsKept, IsRunning, IsSearch, States, empties, kept_at, kept_of}
