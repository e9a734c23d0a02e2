-- How debugging an accepted program ends: what the lines of the console print, and the report; or less, where a fault stopped it.
use Rattle.std.specs.Prelude.{◌≡◌, ℕ, List, [], Option, None, IfSome}
use Rattle.mic_base.specs.Prelude.{Rose}
use Rattle.mic_clock.specs.Prelude.{Meaning, BoardView}
use Rattle.verifier_facts.specs.Prelude.{VerifiedView}
use Rattle.mal_parser.specs.Prelude.{MalView}
use Rattle.mal_shipped.specs.declared.loaded.Loaded.{Loaded}
use Rattle.mic_debugger.specs.Prelude.{session_at, SessionView, listing_of}
use Rattle.cli_outside.specs.Status as exits
use Rattle.cli_outside.specs.Prelude.{out_of_memory, LentView, Over, OutsideView, TellsOnErr}
use Rattle.cli_run_texts.specs.Prelude.{left_report}
use Rattle.cli_clocked.specs.declared.job.Job.{Job}
use Rattle.cli_clocked.specs.Prelude.{EndsPrepared, IsFirstBoard}
use Rattle.cli_clocked.specs.declared.preparing.Prepared.{Prepared}
use Rattle.cli_session.specs.Prelude.{EndsWithInput, IsCutIn, IsNext, IsReadOut, most_lines, AreDone, IsCutShort, Place, place}
use Rattle.cli_debug.specs.Stand.{is_quit}
use Rattle.cli_debug.specs.Debugging.{DebuggingView, debugging, debugging_view}

module _ {M State : Type 0} (state : M → State) (m : Meaning State) where
  -- the report of where a board stands that is left
  abbrev pub left_report_on : BoardView M → List ℕ
  left_report_on board = left_report board.end board.counts (m.registers (state board.machine))

  -- that of a session's board
  abbrev pub report_in : SessionView M → List ℕ
  report_in v = left_report_on v.board

  -- a session over an accepted program at its reset, before its first line
  pub record IsStart (bound : ℕ) (micro : MalView) (l : Loaded) (program : VerifiedView) (v : SessionView M) : Type 0 where
    pub reset : IsFirstBoard state m micro l program v.board
    pub begun : v ≡ session_at v.board (listing_of micro l.placement program) bound [] None

  pub data IsDebugged (bound : ℕ) (micro : MalView) (program : VerifiedView) (input : List ℕ) (old new : OutsideView) (status : ℕ) : Type 0 where
    -- memory ran out before the first line
    NoRoom : TellsOnErr out_of_memory exits.memory old new status → IsDebugged bound micro program input old new status
    -- the lines of the console were done and none after them was asked for; then the place where the session stands was reported
    Left : (l : Loaded) (first : SessionView M) (lines : List (List ℕ)) (last : Place (DebuggingView M)) →
        IsStart bound micro l program first → AreDone (debugging state m) lines (place (debugging_view first input) old) last →
        IfSome old.console.left (λ bytes.
        IsReadOut (is_quit program.map.stack_end) most_lines bytes lines new.console.left) →
        new.console.faults ≡ old.console.faults →
        TellsOnErr (report_in last.session.session) exits.done last.seen new status → IsDebugged bound micro program input old new status
    -- the console failed: the place where the session stands was reported after the whole lines before that
    Cut : (l : Loaded) (first : SessionView M) (lines : List (List ℕ)) (last : Place (DebuggingView M)) →
        IsStart bound micro l program first → AreDone (debugging state m) lines (place (debugging_view first input) old) last →
        IfSome old.console.left (λ bytes. IsCutIn (is_quit program.map.stack_end) most_lines bytes lines new.console.left) →
        Rose old.console.faults new.console.faults →
        TellsOnErr (report_in last.session.session) exits.console last.seen new status → IsDebugged bound micro program input old new status
    -- `out` or `err` failed in the line after these
    Stopped : (l : Loaded) (first : SessionView M) (lines : List (List ℕ)) (line : List ℕ) (mid : Place (DebuggingView M)) →
        IsStart bound micro l program first → AreDone (debugging state m) lines (place (debugging_view first input) old) mid →
        IfSome old.console.left (λ bytes. IsNext (is_quit program.map.stack_end) most_lines bytes lines line) →
        IsCutShort (debugging state m) line mid new → new.console.faults ≡ old.console.faults → status ≡ exits.sink →
        IsDebugged bound micro program input old new status

  -- what is done to an outside that is lent, of a program and a microprogram that are prepared
  abbrev pub DebugsPrepared : ℕ → Prepared → List ℕ → LentView → LentView → ℕ → Type 0
  DebugsPrepared bound prepared input = Over (IsDebugged bound prepared.micro.program prepared.program input)

  -- how `debug` ends, from the files that hold these and the input
  abbrev pub EndsDebug : Job (List ℕ) → Option (List ℕ) → OutsideView → OutsideView → ℕ → Type 0
  EndsDebug job input = EndsPrepared m.machine job (λ micro program. EndsWithInput (IsDebugged job.bound micro program) input)
