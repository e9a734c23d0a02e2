-- How the profile of an accepted program ends: what its run's boundaries count, and the report; or less, where a fault stopped it.
use Rattle.std.specs.Prelude.{◌≡◌, ℕ, List, [], ◌++◌, Some, None, length, unwrap_or}
use Rattle.cli_clocked.specs.Common.{Rose, End, Meaning, BoardView, VerifiedView, MalView, Loaded, Cycle, AreRowsUpTo, profile_of_cycles, profile_text}
use Rattle.cli_clocked.specs.Common.{out_of_memory, Got, OutsideView, Says, TellsOnErr, status_of}
use Rattle.cli_outside.specs.Status as exits
use Rattle.cli_clocked.specs.Runs.{RunsThrough, report_on}

module _ {M State : Type 0} (state : M → State) (m : Meaning State) where
  -- the run of this microprogram over an accepted program, profiled
  pub data IsProfiled (bound : ℕ) (micro : MalView) (program : VerifiedView) (old new : OutsideView) (status : ℕ) : Type 0 where
    -- memory ran out before the first cycle
    NoRoom : TellsOnErr out_of_memory exits.memory old new status → IsProfiled bound micro program old new status
    -- The run came to its end, or the console or `out` failed and cut it: `err` has got its profile and its report. The profile is that of the end
    -- where the board stands: if only the last flush failed, the run came to that end before.
    Whole : (l : Loaded) (last : BoardView M) (cycles : List Cycle) (end : End) (rows : List ℕ) →
        RunsThrough state m bound micro l program cycles last (Some end) old new → AreRowsUpTo program.image (length program.image.text) rows →
        Says old.err new.err (profile_text (profile_of_cycles rows cycles) (unwrap_or last.end end) last.counts
        ++ report_on state m end last) (status_of end) status →
        IsProfiled bound micro program old new status
    -- `err` failed before the profile was put, and the run was stopped there, before it came to an end: `err` has got nothing
    Stopped : (l : Loaded) (last : BoardView M) (cycles : List Cycle) → RunsThrough state m bound micro l program cycles last None old new →
        last.end ≡ None → Got old.err.held [] new.err.held → Rose old.err.faults new.err.faults → status ≡ exits.sink → IsProfiled bound micro program old new status
