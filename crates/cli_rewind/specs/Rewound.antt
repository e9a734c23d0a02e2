-- How rewinding an accepted program ends: what the lines of the console print; or less, where a fault stopped it.
use Rattle.std.specs.Prelude.{◌≡◌, ℕ, List, Option}
use Rattle.cli_rewind.specs.Common.{World, Shows, Meaning, VerifiedView, MalView, Loaded, reset_run, out_of_memory, LentView, Over, OutsideView, TellsOnErr}
use Rattle.cli_rewind.specs.Common.{Job, EndsPrepared, IsFirstBoard, Prepared, EndsWithInput, most_lines, place, Goes, Step}
use Rattle.cli_outside.specs.Status as exits
use Rattle.cli_session.specs.declared.lines.Step.TheVariants as steps
use Rattle.cli_rewind.specs.Stand.{StandsAt, at_reset}
use Rattle.cli_rewind.specs.Rewinding.{RewindingView, rewinding}

-- the status, by how a session was left
abbrev pub status_after : Step → ℕ
status_after steps.On = exits.done
status_after steps.Over = exits.done
status_after steps.ConsoleFailed = exits.console
status_after steps.SinkFailed = exits.sink

module _ {M State : Type 0} (state : M → State) (m : Meaning State) where
  -- a session over an accepted program at its reset, which stands there whatever its input has left and `out` holds
  pub record IsStart (depth : ℕ) (micro : MalView) (l : Loaded) (program : VerifiedView)
      (d : RewindingView M) : Type 0 where
    pub reset : IsFirstBoard state m micro l program d.rewind.board
    pub depth_is : d.rewind.history.depth ≡ depth
    pub memory : d.memory ≡ program.map.stack_end
    -- whatever is left and held, it shows a world, so there is such a stand
    pub shown : (left held : Option (List ℕ)) → (w : World) × Shows left held d.rewind.board.bus w
    pub stands : (left held : Option (List ℕ)) (w : World) → Shows left held d.rewind.board.bus w →
        StandsAt state m left held d.rewind (at_reset (reset_run m l.entry program.main_locals w))

  pub data IsRewound (depth : ℕ) (micro : MalView) (program : VerifiedView) (input : List ℕ)
      (old new : OutsideView) (status : ℕ) : Type 0 where
    -- memory ran out before the first line
    NoRoom : TellsOnErr out_of_memory exits.memory old new status → IsRewound depth micro program input old new status
    -- the lines of the console were done, as far as they go
    Went : (l : Loaded) (first last : RewindingView M) (step : Step) → IsStart depth micro l program first →
        first.input ≡ input →
        Goes (rewinding state m) most_lines 0 (place first old) (place last new) step → status ≡ status_after step →
        IsRewound depth micro program input old new status

  -- the start of a session over a program and a microprogram that are prepared
  abbrev pub IsStartOf : ℕ → Prepared → RewindingView M → Type 0
  IsStartOf depth prepared = IsStart depth prepared.micro.program prepared.micro.loaded prepared.program

  -- what is done to an outside that is lent, of a program and a microprogram that are prepared
  abbrev pub RewindsPrepared : ℕ → Prepared → List ℕ → LentView → LentView → ℕ → Type 0
  RewindsPrepared depth prepared input = Over (IsRewound depth prepared.micro.program prepared.program input)

  -- how `rewind` ends, from the files that hold these and the input
  abbrev pub EndsRewind : ℕ → Job (List ℕ) → Option (List ℕ) → OutsideView → OutsideView → ℕ → Type 0
  EndsRewind depth job input = EndsPrepared m.machine job (λ micro program. EndsWithInput (IsRewound depth micro program) input)
