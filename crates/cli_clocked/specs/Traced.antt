-- How the trace of an accepted program ends: the lines of each cycle of its run, and the report; or less, where a fault stopped it.
use Rattle.std.specs.Prelude.{◌≡◌, ℕ, List, ◌++◌, Bool, Some, None}
use Rattle.cli_clocked.specs.Common.{Rose, End, Meaning, BoardView, VerifiedView, MalView, Loaded, Cycle, PrintsOf, AreLinesOf, Traced, out_of_memory, GotInPart}
use Rattle.cli_clocked.specs.Common.{OutsideView, Says, TellsOnErr, status_of}
use Rattle.cli_outside.specs.Status as exits
use Rattle.cli_clocked.specs.Runs.{RunsThrough, report_on}

-- the lines of these cycles, one after the other
abbrev pub AreTraceLines : Traced → List Cycle → List ℕ → Type 0
AreTraceLines = PrintsOf (λ t c. t) AreLinesOf

-- what is traced of a microprogram at its addresses, over an accepted program
abbrev pub traced_of : MalView → Loaded → VerifiedView → Bool → Traced
traced_of micro l program buses = record { program = micro; addresses = l.placement; image = program.image; buses = buses }

module _ {M State : Type 0} (state : M → State) (m : Meaning State) where
  -- the run of this microprogram over an accepted program, traced
  pub data IsTraced (bound : ℕ) (buses : Bool) (micro : MalView) (program : VerifiedView) (old new : OutsideView) (status : ℕ) : Type 0 where
    -- memory ran out before the first cycle
    NoRoom : TellsOnErr out_of_memory exits.memory old new status → IsTraced bound buses micro program old new status
    -- the run came to its end, or the console or `out` failed and cut it: `err` has got the lines of its cycles, and its report
    Whole : (l : Loaded) (last : BoardView M) (cycles : List Cycle) (end : End) (lines : List ℕ) →
        RunsThrough state m bound micro l program cycles last (Some end) old new → AreTraceLines (traced_of micro l program buses) cycles lines →
        Says old.err new.err (lines ++ report_on state m end last) (status_of end) status → IsTraced bound buses micro program old new status
    -- `err` failed, and the run was stopped there, before it came to an end: `err` has got a front of the lines of these cycles
    Stopped : (l : Loaded) (last : BoardView M) (cycles : List Cycle) (lines : List ℕ) →
        RunsThrough state m bound micro l program cycles last None old new → last.end ≡ None → AreTraceLines (traced_of micro l program buses) cycles lines →
        GotInPart old.err.held lines new.err.held → Rose old.err.faults new.err.faults → status ≡ exits.sink →
        IsTraced bound buses micro program old new status
