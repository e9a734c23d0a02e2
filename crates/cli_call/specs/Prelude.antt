-- The words of this crate, for those that use it.
pub use Rattle.cli_call.specs.Agree.{Agrees, BothRan, CallsAgree, CallsEndAlike, CountsTheRun, IsQuiet, NoneHad}
pub use Rattle.cli_call.specs.Answers.{Adrift, ConsoleFailed, Ended, FileFailed, HasFileRead, IsAnswer, IsFaultless, IsOnlyTold, IsReference, IsRun, IsUntouched, Misused, NoMemory, OutOfMap, Refused, Runs, RunsOwn, ShortOfMemory, SinkFailed, TakesFile, TooLong}
pub use Rattle.cli_call.specs.CallEnds.{CallEnds, DoesAsked, EndsAs, EndsOn, EndsOnMachine, EndsRun, PrintsMicro, job_of, shipped_job_of}
pub use Rattle.cli_call.specs.ClockedEnd.{ClockedEnd, CutByRead, CutByWrite, Ran}
pub use Rattle.cli_call.specs.Meant.{CallsAreAsMeant, Cut, EndsAsMeant, HasEnded, HasGot, IsTinyCall, SomeBound, Whole}
