-- How the commands over a board end, from the files that they read.
use Rattle.std.specs.Prelude.{ℕ, Bool, List}
use Rattle.cli_clocked.specs.Common.{Meaning, OutsideView}
use Rattle.cli_clocked.specs.declared.job.Job.{Job}
use Rattle.cli_clocked.specs.Cached.{IsCached}
use Rattle.cli_clocked.specs.OwnRun.{IsOwnRun}
use Rattle.cli_clocked.specs.Prepared.{EndsPrepared}
use Rattle.cli_clocked.specs.Profiled.{IsProfiled}
use Rattle.cli_clocked.specs.Traced.{IsTraced}

module _ {M State : Type 0} (state : M → State) (m : Meaning State) where
  -- with the buses of each cycle, or without
  abbrev pub EndsTrace : Bool → Job (List ℕ) → OutsideView → OutsideView → ℕ → Type 0
  EndsTrace buses job = EndsPrepared m.machine job (IsTraced state m job.bound buses)

  abbrev pub EndsProfile : Job (List ℕ) → OutsideView → OutsideView → ℕ → Type 0
  EndsProfile job = EndsPrepared m.machine job (IsProfiled state m job.bound)

  abbrev pub EndsOwnRun : Job (List ℕ) → OutsideView → OutsideView → ℕ → Type 0
  EndsOwnRun job = EndsPrepared m.machine job (IsOwnRun state m job.bound)

  -- with a cache of this many lines
  abbrev pub EndsCache : ℕ → Job (List ℕ) → OutsideView → OutsideView → ℕ → Type 0
  EndsCache lines job = EndsPrepared m.machine job (IsCached state m lines job.bound)
