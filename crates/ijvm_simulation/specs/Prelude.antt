-- The words of this crate, for those that use it.
pub use Rattle.ijvm_simulation.specs.Accesses.{IsConsoleAccess, IsMapEnd, IsWordAccess, console_address}
pub use Rattle.ijvm_simulation.specs.Agreement.{EndAlike, MeetNoBound}
pub use Rattle.ijvm_simulation.specs.Answers.{EndsByCause, IsCutWhereReadFails, IsCutWhereWriteFails, RunsAsDefined}
pub use Rattle.ijvm_simulation.specs.Bytes.{Reads}
pub use Rattle.ijvm_simulation.specs.Guesses.{address_after, left_of}
pub use Rattle.ijvm_simulation.specs.Headline.{Begins, HasRun, IsAtMoment, IsCutByRead, IsCutByWrite, Leaves, told_of}
pub use Rattle.ijvm_simulation.specs.Images.{Lands, jump}
pub use Rattle.ijvm_simulation.specs.Interpretation.{Interpretation, Reading, interpretation, interpretation_with}
pub use Rattle.ijvm_simulation.specs.Law.{Boots, Grows, HaltsAndErrs, HasWord, Law, Moves, OnDone, Overruns, ShowsState, Stops, StopsAfter, StopsHere, Takes, reset_moment}
pub use Rattle.ijvm_simulation.specs.Methods.{Arguments, IsConstant, IsMethod}
pub use Rattle.ijvm_simulation.specs.Outcomes.{Fits, IsOutcome, Overflows, Overran, Returns, Stores, Went, WithConstant, WithLocal, WithMethod, WithTop, WithTwo, push}
pub use Rattle.ijvm_simulation.specs.Passes.{Moment, is_inside, last, onward, outcome_at, pass, pass_on, stalls_at}
pub use Rattle.ijvm_simulation.specs.Promises.{Interprets, Promises}
pub use Rattle.ijvm_simulation.specs.Reset.{IsAtReset, reset_run}
pub use Rattle.ijvm_simulation.specs.Simulates.{IsBoundary, IsEnd, Simulates, below, board_end, boundary_of, going_on, nth_point}
pub use Rattle.ijvm_simulation.specs.Stack.{Top, Two, frame_with, place_after}
pub use Rattle.ijvm_simulation.specs.Stalls.{Following, Booted, HasStalled, LimitsStall, MovesWithStalls, OverrunsWithStalls, RunsStall, StoppedWithin, TakesWithStalls}
pub use Rattle.ijvm_simulation.specs.Stands.{FrameStands, FramesStand, IsAt, IsLinked, IsMemory, IsTop, OperandsAt, Origin, RegistersStand, caller_lv}
pub use Rattle.ijvm_simulation.specs.Starts.{EndsAsDefined}
pub use Rattle.ijvm_simulation.specs.Verified.{Fine, IsNext, Loads, program}
pub use Rattle.ijvm_simulation.specs.Writes.{linked_words}
