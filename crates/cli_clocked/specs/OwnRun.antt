-- How the run of an accepted program by a microprogram ends: it has come to its end, or a fault cut it, and its report is printed.
use Rattle.std.specs.Prelude.{◌≡◌, ℕ, [], Some}
use Rattle.cli_clocked.specs.Common.{End, Meaning, BoardView, IsRun, RunIsCutByRead, RunIsCutByWrite, VerifiedView, MalView, Loaded, out_of_memory, OutsideView}
use Rattle.cli_clocked.specs.Common.{Says, TellsOnErr, status_of}
use Rattle.cli_outside.specs.Status as exits
use Rattle.cli_clocked.specs.Runs.{IsFirstBoard, IsLeftBy, report_on}

module _ {M State : Type 0} (state : M → State) (m : Meaning State) where
  pub data IsOwnRun (bound : ℕ) (micro : MalView) (program : VerifiedView) (old new : OutsideView) (status : ℕ) : Type 0 where
    -- memory ran out before the first cycle
    NoRoom : TellsOnErr out_of_memory exits.memory old new status → IsOwnRun bound micro program old new status
    -- turns from the reset lead to the end, or a fault cuts them; then nothing waits for `out`
    Ran : (l : Loaded) (first last : BoardView M) (end : End) → IsFirstBoard state m micro l program first → last.end ≡ Some end → last.bus.console.kept ≡ [] →
        IsRun state m old.console.left old.out.held first new.console.left new.out.held last (Some bound) →
        RunIsCutByRead state m old.console.left old.out.held first new.console.left new.out.held last (Some bound) →
        RunIsCutByWrite state m old.console.left old.out.held first new.console.left new.out.held last (Some bound) →
        IsLeftBy (Some end) old new → Says old.err new.err (report_on state m end last) (status_of end) status → IsOwnRun bound micro program old new status
