-- What clauses see of a board, and of a machine that is clocked by subcycles.
use Rattle.std.specs.Prelude.{ℕ, Option}
use Rattle.mic_clock.specs.Common.{BusView, ControlStore}
use Rattle.mic_clock.specs.declared.counts.Counts.{Counts}
use Rattle.mic_clock.specs.declared.end.End.{End}
use Rattle.mic_clock.specs.declared.phase.Phase.{Phase}
use Rattle.mic_clock.specs.Run.{Buses}

pub record BoardView (M : Type 0) : Type 0 where
  pub machine : M
  pub store : ControlStore
  pub bus : BusView
  pub counts : Counts
  pub end : Option End
  -- the bus values of the last clocked microstep
  pub buses : Buses

pub record SubcyclesView (M : Type 0) : Type 0 where
  pub machine : M
  pub phase : Phase
  -- the word that was set up last
  pub word : ℕ
