-- The words of this crate, for those that use it.
pub use Rattle.mic1_passes.specs.Moments.{StopsAt, moment}
