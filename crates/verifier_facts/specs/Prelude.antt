-- The words of this crate, for those that use it.
pub use Rattle.verifier_facts.specs.Accepted.{IsAccepted, IsVerified, VerifiedView}
pub use Rattle.verifier_facts.specs.Facts.{Accepts, Code, Covers, Header, IsMainCount, IsMethodCount, IsTrueOf, IsWrongAt, MainNames, Names, Piece}
pub use Rattle.verifier_facts.specs.Kinds.{AreKinds, IsKind, first}
pub use Rattle.verifier_facts.specs.MainCount.{at_most, one_count}
pub use Rattle.verifier_facts.specs.Paths.{Arrival, Enters, Follows, Goes, GoesOn, HasConstant, HasJump, HasNext, HasRow, Into, IsNoCall, IsOwn, IsReachedMethod, IsWhole, MayCarry, On, Reached, Start, Then, arrival, callee, left_unset, need_by, need_of, ways_of}
pub use Rattle.verifier_facts.specs.Sound.{AreWaiting, Finds, FrameStandsAt, IsFrameOf, IsSound, KeepsSound}
