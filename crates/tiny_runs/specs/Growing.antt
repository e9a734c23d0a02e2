-- What one more turn changes of a program's meaning: nothing where it has ended, and its output only grows.
use Rattle.std.specs.Prelude.{◌≡◌, ℕ, suc, List}
use Rattle.tiny_tree.specs.Prelude.{Program, Ended, meaning}
use Rattle.tiny_runs.specs.AsMeant.{output, IsPrefix}

pub record GrowsWithTurns (p : Program) (input : List ℕ) (n : ℕ) : Type 0 where
  -- what has ended stays so
  pub ended : (given untaken : List ℕ) → meaning p input n ≡ Ended given untaken → meaning p input (suc n) ≡ Ended given untaken
  pub grows : IsPrefix (output (meaning p input n)) (output (meaning p input (suc n)))
