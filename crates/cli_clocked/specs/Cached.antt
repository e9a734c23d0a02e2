-- How the run of an accepted program ends with a cache beside it: the report, and then what the cache counted; or less, where a fault cut it.
use Rattle.std.specs.Prelude.{ℕ, List, ◌++◌, Some, replicate}
use Rattle.cli_clocked.specs.Common.{End, Meaning, BoardView, Cycle, VerifiedView, MalView, Loaded, accesses_of, cache_line, counts_of, out_of_memory}
use Rattle.cli_clocked.specs.Common.{OutsideView, Says, TellsOnErr, status_of}
use Rattle.console_port.specs.Prelude.{IsLoaded}
use Rattle.cli_outside.specs.Status as exits
use Rattle.cli_clocked.specs.Runs.{RunsThrough, report_on}

-- a memory that begins with zeros has a program's image loaded
abbrev pub HasImage : VerifiedView → List ℕ → Type 0
HasImage program words = IsLoaded program.image.text program.image.pool (replicate program.map.stack_end 0) words

module _ {M State : Type 0} (state : M → State) (m : Meaning State) where
  -- the run of this microprogram over an accepted program, with a cache of this many lines
  pub data IsCached (lines bound : ℕ) (micro : MalView) (program : VerifiedView) (old new : OutsideView) (status : ℕ) : Type 0 where
    -- memory ran out before the first cycle
    NoRoom : TellsOnErr out_of_memory exits.memory old new status → IsCached lines bound micro program old new status
    -- The run came to its end, or the console or `out` failed and cut it: `err` has got its report, and then the hits and the misses among the
    -- accesses of its cycles, by a cache that began empty in front of as much memory.
    Ran : (l : Loaded) (last : BoardView M) (cycles : List Cycle) (end : End) →
        RunsThrough state m bound micro l program cycles last (Some end) old new →
        Says old.err new.err (report_on state m end last
        ++ cache_line lines (counts_of lines program.map.stack_end (accesses_of m.machine l.store.words cycles))) (status_of end) status →
        IsCached lines bound micro program old new status
