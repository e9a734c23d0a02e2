-- The run of an accepted program by a microprogram: where it begins, what it leaves of the outside, and its report.
use Rattle.std.specs.Prelude.{◌≡◌, ◌≢◌, ℕ, List, [], ◌++◌, Option, Some, None, IfSome, Result, length}
use Rattle.cli_clocked.specs.Common.{HasCause, Puts, StaysFlushed, End, Meaning, BoardView, HasEndCause, VerifiedView, MalView, Loaded, IsLoaded, Cycle}
use Rattle.cli_clocked.specs.Common.{ShowsCycles, LentView, Over, OutsideView, Says, SinkState, sink_of, status_of, AreClockedAfter, IsAtReset}
use Rattle.mic_clock.specs.declared.end.End.TheVariants as ends
use Rattle.cli_run_texts.specs.Report.{report as report_of}
use Rattle.cli_clocked.specs.declared.preparing.Prepared.{Prepared}

-- the run of a prepared microprogram over its program does this to an outside that is lent
abbrev pub OverPrepared : (MalView → VerifiedView → OutsideView → OutsideView → ℕ → Type 0) → Prepared → LentView → LentView → ℕ → Type 0
OverPrepared Runs prepared = Over (Runs prepared.micro.program prepared.program)

-- A run that came to this end, or to none, leaves the files, and has failed where its end says so. Where `out` did not fail, it has passed on all.
pub record IsLeftBy (end : Option End) (old new : OutsideView) : Type 0 where
  pub files : new.files ≡ old.files
  pub cause : HasEndCause old.console.faults new.console.faults old.out.faults new.out.faults None end
  pub flushed : IfSome end (λ e. e ≢ ends.WriteFault → StaysFlushed old.out.held old.out.passed new.out.held new.out.passed)

-- A text is printed after what was put to a sink since some earlier state of it, unless that failed: both count as one printed text.
abbrev pub SaysAfter : {K E : Type 0} → (K → Option (List ℕ)) → (K → Option (List ℕ)) → (K → ℕ) → Result Unit E → K → K → List ℕ → ℕ → ℕ → Type 0
SaysAfter held passed faults said old new text code status =
    (first : SinkState) (before : List ℕ) → Puts first.held before said (held old) → HasCause first.faults (faults old) said →
    Says first (sink_of held passed faults new) (before ++ text) code status

module _ {M State : Type 0} (state : M → State) (m : Meaning State) where
  -- the report of a run that ended so: a board's counts and registers
  abbrev pub report_on : End → BoardView M → List ℕ
  report_on end board = report_of end board.counts (m.registers (state board.machine))

  -- the report of a board is printed after what was put to a sink, with the end's status
  abbrev pub ReportsAfter : {K E : Type 0} → (K → Option (List ℕ)) → (K → Option (List ℕ)) → (K → ℕ) → Result Unit E → End → BoardView M → K → K → ℕ → Type 0
  ReportsAfter held passed faults said end board old new = SaysAfter held passed faults said old new (report_on end board) (status_of end)

  -- the board at its reset from which a microprogram runs an accepted program
  pub record IsFirstBoard (micro : MalView) (l : Loaded) (program : VerifiedView) (board : BoardView M) : Type 0 where
    pub loaded : IsLoaded micro l
    pub store : board.store ≡ l.store
    pub reset : IsAtReset state m l.entry program board

  -- a run from there to this board, that shows these cycles; it has no end where it was stopped
  pub record RunsThrough (bound : ℕ) (micro : MalView) (l : Loaded) (program : VerifiedView) (cycles : List Cycle) (last : BoardView M) (end : Option End)
      (old new : OutsideView) : Type 0 where
    pub first : BoardView M
    pub begins : IsFirstBoard micro l program first
    pub shows : ShowsCycles state m bound old.console.left old.out.held first new.console.left new.out.held last cycles end
    pub ends : IfSome end (λ e. e ≢ ends.WriteFault → last.end ≡ Some e)
    -- at the end nothing waits for `out`: it has got all the output, unless it failed
    pub kept : IfSome end (λ e. last.bus.console.kept ≡ [])
    pub left : IsLeftBy end old new

  -- the cycles of each such run are clocked one after the other from the first, and are as many as the board counts
  abbrev pub RunsAreClocked : Type 0
  RunsAreClocked =
      (bound : ℕ) (micro : MalView) (l : Loaded) (program : VerifiedView) (cycles : List Cycle)
      (last : BoardView M) (end : Option End) (old new : OutsideView) →
      RunsThrough bound micro l program cycles last end old new → AreClockedAfter 0 cycles × (length cycles ≡ last.counts.cycles)
