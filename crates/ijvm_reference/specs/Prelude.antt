-- The words of this crate, for those that use it.
pub use Rattle.ijvm_reference.specs.Kept.{HasKept, HasRead, Keeps, ReadsIn, WritesOut, fresh, is_empty}
pub use Rattle.ijvm_reference.specs.Machine.{ArePlaced, IsComputed, IsSwapped, KeepsProgram, MachineView, Pops, Stores, Swaps, in_call, outcome_of, started, state_of}
pub use Rattle.ijvm_reference.specs.Plain.{Finishes, GotFront, HasRun, IsCutAtEnd, IsCutByRead, IsCutByWrite, IsCutInside, IsReportOf, IsRunReport, IsShort, Leaves, Reports, Stops, program, reported_end, told_of}
pub use Rattle.ijvm_reference.specs.Runs.{Begins, ComesFurther, EndsIn, GoesOn, HasRunCause, IsAllBut, IsAtBoundary, IsCut, IsCutAt, IsDriven, IsShown, Onward}
pub use Rattle.ijvm_reference.specs.Runs.{Reaches, RunEndsWith, ShownBy, StandsWith, StoppedBy, TurnsTo, counts_after, cut_by, point_at, program_of, stop_by}
pub use Rattle.ijvm_reference.specs.Steps.{Does, IsCutOff, IsLedOn, IsMetBy, LedBy, LedTo, StepFails, Turns, step_end}
