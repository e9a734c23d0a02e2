-- The words of this crate, for those that use it.
pub use Rattle.mic1_cycles.specs.Access.{AccessLaw, AccessLaws, IsFetched, IsTransferred}
pub use Rattle.mic1_cycles.specs.Cycle.{CycleLaw, IsAccessed, IsComputed, LeadsTo, ports_of}
pub use Rattle.mic1_cycles.specs.Known.{Knows}
pub use Rattle.mic1_cycles.specs.Paths.{AreRefused, IsPath, LeadsOn, MeetsRefusal, refusal_of, trail_of}
pub use Rattle.mic1_cycles.specs.Questions.{AreAnswered, truth}
pub use Rattle.mic1_cycles.specs.Refusals.{RefusalLaws}
pub use Rattle.mic1_cycles.specs.Sites.{IsByteIn, IsSite, Reads}
pub use Rattle.mic1_cycles.specs.Symbols.{HasSigns, IsSigned, IsSignedIn, assigned_symbols, byte_in, micro_of, moved_symbols, source_symbol, word_in}
pub use Rattle.mic1_cycles.specs.Trail.{Trail, given_by, world_of, written_by}
