-- The words of this crate, for those that use it.
pub use Rattle.verifier_locals.specs.Graph.{Begin, Carries, IsGraph, IsInside, IsNodeAt, IsNodeOf, LeadsTo, Pass}
pub use Rattle.verifier_locals.specs.LocalSet.{Has, IsIn}
pub use Rattle.verifier_locals.specs.Shortcut.{IsEndAt, IsPast, IsPlain, IsShort, IsShortOf, Skip, Skips, Stay, first_way}
pub use Rattle.verifier_locals.specs.Trace.{AreOlder, IsHeld, IsMarked, IsPassed, IsReady, IsTracing, MarksMore, Passes, ReadsNone, ReadsUnset, blanks, held, held_at}
pub use Rattle.verifier_locals.specs.Unset.{AreSet, AreWanted, Wants}
