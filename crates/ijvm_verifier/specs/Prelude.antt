-- The words of this crate, for those that use it.
pub use Rattle.ijvm_verifier.specs.Counted.{IsCounted, NodeNames}
pub use Rattle.ijvm_verifier.specs.Survey.{IsSurvey}
pub use Rattle.ijvm_verifier.specs.Sweep.{AreMethodsBelow, IsSwept, rank}
