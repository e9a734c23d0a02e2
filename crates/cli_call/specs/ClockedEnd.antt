-- How the clocking of an accepted program ends, by the microprogram that ships: its run and its report.
use Rattle.std.specs.Prelude.{◌≡◌, ℕ, List}
use Rattle.cli_call.specs.Common.{Rose, StaysFlushed, World, Meaning, BoardView, Timing, VerifiedView, board_end, HasRun, IsCutByRead, IsCutByWrite}
use Rattle.cli_call.specs.Common.{out_of_memory, OutsideView, Says, TellsOnErr, status_of, report_on}
use Rattle.mic_clock.specs.declared.end.End.TheVariants as ends
use Rattle.cli_outside.specs.Status as exits

-- A machine: its meaning, when its next instruction is ready, its store that ships, where that begins, and what is spent.
module _ {M S : Type 0} (state : M → S) (m : Meaning S) (IsReady : ℕ → List ℕ → ℕ → S → World → Type 0)
    (IsShipped : List ℕ → Type 0) (entry : ℕ) (timing : Timing) where
  -- `board` is the machine that was clocked over the program from its reset
  pub data ClockedEnd (bound : ℕ) (program : VerifiedView) (old new : OutsideView) (status : ℕ) : Type 0 where
    -- memory ran out before the first cycle
    NoRoom : TellsOnErr out_of_memory exits.memory old new status → ClockedEnd bound program old new status
    -- the clocked run is the definition's, boundary by boundary, and has ended as that does, with the status of that end;
    -- `out` has got the definition's output, and has passed on all
    Ran : (board : BoardView M) →
        (run : HasRun state m IsReady IsShipped entry timing program bound old.console.left old.out.held new.console.left new.out.held board) →
        new.files ≡ old.files → new.console.faults ≡ old.console.faults → new.out.faults ≡ old.out.faults →
        StaysFlushed old.out.held old.out.passed new.out.held new.out.passed →
        Says old.err new.err (report_on state m (board_end run.begins.finish.end) board) (status_of (board_end run.begins.finish.end)) status →
        ClockedEnd bound program old new status
    -- the console failed, which cut the run; `out` has got all the output before it, and has passed on all
    CutByRead : (board : BoardView M) →
        IsCutByRead state m IsReady IsShipped entry timing program bound old.console.left old.out.held new.console.left new.out.held board →
        new.files ≡ old.files → Rose old.console.faults new.console.faults → new.out.faults ≡ old.out.faults →
        StaysFlushed old.out.held old.out.passed new.out.held new.out.passed →
        Says old.err new.err (report_on state m ends.ReadFault board) (status_of ends.ReadFault) status → ClockedEnd bound program old new status
    -- `out` failed, which cut the run; `out` has got a front of the output
    CutByWrite : (board : BoardView M) →
        IsCutByWrite state m IsReady IsShipped entry timing program bound old.console.left old.out.held new.console.left new.out.held board →
        new.files ≡ old.files → new.console.faults ≡ old.console.faults → Rose old.out.faults new.out.faults →
        Says old.err new.err (report_on state m ends.WriteFault board) (status_of ends.WriteFault) status → ClockedEnd bound program old new status
