-- Images that do what a program means.
use Rattle.std.specs.Prelude.{ℕ}
use Rattle.ijvm_image.specs.Prelude.{ImageView}
use Rattle.ijvm_meaning.specs.Prelude.{Timing, IsSafe}
use Rattle.tiny_tree.specs.Prelude.{Program}
use Rattle.tiny_runs.specs.AsMeant.{Advances, RunsAsMeant, runs_of}

-- where the runs of the image never get stuck, they are as the program means
abbrev pub Performs : ImageView → Program → Type 0
Performs image program = (stack_end main_locals : ℕ) (timing : Timing) → IsSafe image stack_end main_locals → Advances timing →
    RunsAsMeant program (runs_of image stack_end timing) main_locals
