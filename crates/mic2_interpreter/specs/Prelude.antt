-- The words of this crate, for those that use it.
pub use Rattle.mic2_interpreter.specs.Stalls.{BootsWithStall, MovesWithStalls, OverrunsWithStalls, TakesWithStalls, stalls_of}
pub use Rattle.mic2_interpreter.specs.Stands.{Stands}
