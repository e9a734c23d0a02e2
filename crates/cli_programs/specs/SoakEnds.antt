-- How `soak` ends: the generated program's run on a machine, with no input and its output thrown away, and its summary; or memory ran out.
use Rattle.std.specs.Prelude.{◌≡◌, ℕ, List, [], length, Option, Some, None}
use Rattle.cli_programs.specs.Common.{STANDARD, World, Meaning, BoardView, Timing, VerifiedView, IsAccepted, board_end, HasRun, generated, out_of_memory}
use Rattle.cli_programs.specs.Common.{OutsideView, PrintsOnOut, TellsOnErr, status_of}
use Rattle.cli_outside.specs.Status as exits
use Rattle.cli_programs.specs.SoakSummary.{soak_summary}

-- the cycles after which a run ends at the next boundary
abbrev pub soak_bound : ℕ
soak_bound = 10000000

-- the accepted program of a seed and a size
pub record IsGenerated (seed size : ℕ) (program : VerifiedView) : Type 0 where
  pub image_is : program.image ≡ generated seed size
  pub map_is : program.map ≡ STANDARD
  pub accepted : IsAccepted program

-- A machine: its meaning, when its next instruction is ready, its store that ships, where that begins, and what is spent.
module _ {M S : Type 0} (state : M → S) (m : Meaning S) (IsReady : ℕ → List ℕ → ℕ → S → World → Type 0)
    (IsShipped : List ℕ → Type 0) (entry : ℕ) (timing : Timing) where
  pub data SoakEnds (seed size : ℕ) (old new : OutsideView) (status : ℕ) : Type 0 where
    NoRoom : TellsOnErr out_of_memory exits.memory old new status → SoakEnds seed size old new status
    -- the clocked run is the definition's, boundary by boundary, and has ended as that does; `board` is the machine that was clocked
    Ran : (program : VerifiedView) → IsGenerated seed size program → (left : Option (List ℕ)) (board : BoardView M) →
        (run : HasRun state m IsReady IsShipped entry timing program soak_bound (Some []) None left None board) →
        PrintsOnOut (soak_summary (length (generated seed size).text) (board_end run.begins.finish.end) board.counts (m.registers (state board.machine)).tos)
        (status_of (board_end run.begins.finish.end)) old new status → SoakEnds seed size old new status
