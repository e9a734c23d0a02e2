-- `run` of one program on two machines ends alike.
use Rattle.cli_call.proofs.Common.{◌≡◌, ◌≢◌, ◌∙◌, ℕ, List, Some, Option, sym, ap, subst, IfSome, same_Some, World, End, Meaning, BoardView, Timing}
use Rattle.cli_call.proofs.Common.{VerifiedView, board_end, HasRun, MeetNoBound, Got, OutsideView, Says, status_of, report_on, NoRoom}
use Rattle.mic_clock.specs.declared.end.End.TheVariants as clocked
use Rattle.ijvm_simulation.specs.Agreement as boards
use Rattle.cli_outside.specs.Status as exits
use Rattle.cli_call.specs.Prelude.{ClockedEnd, CutByRead, CutByWrite, Ran, CallsEndAlike, IsQuiet}
use Rattle.cli_call.proofs.Agreeing.{said}

-- what two sinks hold is equal, where both are known
both_tell : (held held' : Option (List ℕ)) (x y : List ℕ) → IfSome held (λ h. IfSome held' (λ h'. h ≡ h')) → held ≡ Some x → held' ≡ Some y → x ≡ y
both_tell held held' x y same a b =
    subst (λ (k : Option (List ℕ)). IfSome k (λ h'. x ≡ h')) b (subst (λ (k : Option (List ℕ)). IfSome k (λ h. IfSome held' (λ h'. h ≡ h'))) a same)

-- a machine and another
module _ {M N S T : Type 0} (state : M → S) (m : Meaning S) (IsReady : ℕ → List ℕ → ℕ → S → World → Type 0) (IsShipped : List ℕ → Type 0) (entry : ℕ) (timing : Timing)
    (state' : N → T) (m' : Meaning T) (IsReady' : ℕ → List ℕ → ℕ → T → World → Type 0) (IsShipped' : List ℕ → Type 0) (entry' : ℕ) (timing' : Timing) where
  -- their boards end alike
  abbrev pub BoardsAgree : Type 0
  BoardsAgree =
      (v : VerifiedView) (bound bound' : ℕ) (input : List ℕ) (before left held left' held' : Option (List ℕ)) (board : BoardView M) (board' : BoardView N) →
      HasRun state m IsReady IsShipped entry timing v bound (Some input) before left held board →
      HasRun state' m' IsReady' IsShipped' entry' timing' v bound' (Some input) before left' held' board' →
      MeetNoBound board board' → boards.EndAlike held held' board board'

  module _ (program : VerifiedView) (bound bound' : ℕ) (input : List ℕ) (old one other : OutsideView) (status status' : ℕ) where
    -- both ran to their ends
    both : BoardsAgree → old.console.left ≡ Some input →
        (board : BoardView M) (run : HasRun state m IsReady IsShipped entry timing program bound old.console.left old.out.held one.console.left one.out.held board) →
        Says old.err one.err (report_on state m (board_end run.begins.finish.end) board) (status_of (board_end run.begins.finish.end)) status →
        (board' : BoardView N) (run' : HasRun state' m' IsReady' IsShipped' entry' timing' program bound' old.console.left old.out.held other.console.left other.out.held board') →
        Says old.err other.err (report_on state' m' (board_end run'.begins.finish.end) board') (status_of (board_end run'.begins.finish.end)) status' →
        IsQuiet old one status → IsQuiet old other status' → status ≢ exits.bound → status' ≢ exits.bound → CallsEndAlike old one other status status'
    both agree tells board run says board' run' says' quiet quiet' none none' =
        let one_said = said old.err one.err _ _ status quiet.err says in
        let other_said = said old.err other.err _ _ status' quiet'.err says' in
        let end : End = board_end run.begins.finish.end in
        let end' : End = board_end run'.begins.finish.end in
        let ended : board.end ≡ Some end = sym run.end ∙ run.agrees.end in
        let ended' : board'.end ≡ Some end' = sym run'.end ∙ run'.agrees.end in
        let alike : boards.EndAlike one.out.held other.out.held board board' =
        agree program bound bound' input old.out.held one.console.left one.out.held other.console.left other.out.held board board'
        (subst (λ (left : Option (List ℕ)). HasRun state m IsReady IsShipped entry timing program bound left old.out.held one.console.left one.out.held board) tells run)
        (subst (λ (left : Option (List ℕ)). HasRun state' m' IsReady' IsShipped' entry' timing' program bound' left old.out.held other.console.left other.out.held board') tells run') (
          λ met. none (one_said.0 ∙ ap status_of (same_Some end clocked.Bound (sym ended ∙ met))),
          λ met. none' (other_said.0 ∙ ap status_of (same_Some end' clocked.Bound (sym ended' ∙ met))),
        ) in
        let same : end' ≡ end = same_Some end' end (sym ended' ∙ (sym alike.end ∙ ended)) in
        record {
          same_status = one_said.0 ∙ (ap status_of (sym same) ∙ sym other_said.0);
          same_out = λ given given'. both_tell one.out.held other.out.held given given' alike.output;
          end = end;
          counts = board.counts;
          counts' = board'.counts;
          same_instructions = alike.instructions;
          registers = m.registers (state board.machine);
          registers' = m'.registers (state' board'.machine);
          one_says = one_said.1;
          other_says = subst (λ (e : End). Got old.err.held (report_on state' m' e board') other.err.held) same other_said.1;
        }

    by_other : BoardsAgree → old.console.left ≡ Some input →
        (board : BoardView M) (run : HasRun state m IsReady IsShipped entry timing program bound old.console.left old.out.held one.console.left one.out.held board) →
        Says old.err one.err (report_on state m (board_end run.begins.finish.end) board) (status_of (board_end run.begins.finish.end)) status →
        ClockedEnd state' m' IsReady' IsShipped' entry' timing' bound' program old other status' →
        IsQuiet old one status → IsQuiet old other status' → status ≢ exits.bound → status' ≢ exits.bound → CallsEndAlike old one other status status'
    by_other agree tells board run says (Ran board' run' files console out flushed says') quiet quiet' = both agree tells board run says board' run' says' quiet quiet'
    by_other agree tells board run says (NoRoom tells') quiet quiet' = absurd (quiet'.memory (said old.err other.err _ _ status' quiet'.err tells'.says).0)
    by_other agree tells board run says (CutByRead board' cut files rose out flushed says') quiet quiet' = absurd (quiet'.console rose)
    by_other agree tells board run says (CutByWrite board' cut files console rose says') quiet quiet' = absurd (quiet'.out rose)

    pub end_alike : BoardsAgree → old.console.left ≡ Some input →
        ClockedEnd state m IsReady IsShipped entry timing bound program old one status →
        ClockedEnd state' m' IsReady' IsShipped' entry' timing' bound' program old other status' →
        IsQuiet old one status → IsQuiet old other status' → status ≢ exits.bound → status' ≢ exits.bound → CallsEndAlike old one other status status'
    end_alike agree tells (Ran board run files console out flushed says) ends quiet quiet' = by_other agree tells board run says ends quiet quiet'
    end_alike agree tells (NoRoom tells') ends quiet quiet' = absurd (quiet.memory (said old.err one.err _ _ status quiet.err tells'.says).0)
    end_alike agree tells (CutByRead board cut files rose out flushed says) ends quiet quiet' = absurd (quiet.console rose)
    end_alike agree tells (CutByWrite board cut files console rose says) ends quiet quiet' = absurd (quiet.out rose)
