-- The words of this crate, for those that use it.
pub use Rattle.mic_debugger.specs.Book.{Book, IsBookOf}
pub use Rattle.mic_debugger.specs.Clocking.{IsDone, IsGoing, IsTold, after, counted_turn, passed, printed, turn_lines, turn_text}
pub use Rattle.mic_debugger.specs.Commands.{command_of}
pub use Rattle.mic_debugger.specs.Lines.{word_lines}
pub use Rattle.mic_debugger.specs.Obeys.{DoesTo, IsBrokenAt, IsCarriedOut, IsLineBroken, IsPlanBroken, KeepsRules, Obeys, StopsTo, plan_in, session_at}
pub use Rattle.mic_debugger.specs.Outcome.{GoesThrough, IsBrokenOff, KeepFronts, NoSinkFailed, SinkFailed, Streams, streams}
pub use Rattle.mic_debugger.specs.Plans.{breaks_after, clocking, is_full_for, plan_by, plan_of, reply_of, shown_text, watched_after, watched_now}
pub use Rattle.mic_debugger.specs.Session.{HasReadCause, HoldsFront, IsBroken, IsStopped, IsUnderway, StandsAfter, text_between}
pub use Rattle.mic_debugger.specs.Stand.{Carries, Does, IsPart, IsWhole, Rules, Stand, StandsAt, plan_at, rules_of, stand_in}
pub use Rattle.mic_debugger.specs.View.{ListingView, SessionView, listing_of}
