-- The words of this crate, for those that use it.
pub use Rattle.mic3_interpreter.specs.Stands.{Stands}
pub use Rattle.mic3_interpreter.specs.Timing.{mic3_timing}
