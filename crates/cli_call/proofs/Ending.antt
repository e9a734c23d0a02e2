-- How a run ends, by the end of its board.
use Rattle.cli_call.proofs.Common.{◌≡◌, ◌≢◌, ◌∙◌, ℕ, List, Some, None, refl, sym, subst, same_Some, StaysFlushed, World, End, Meaning, NoFault, HasEndCause}
use Rattle.cli_call.proofs.Common.{BoardView, Timing, VerifiedView, board_end, HasRun, IsCutByRead, IsCutByWrite, OutsideView, Says, status_of, report_on}
use Rattle.mic_clock.specs.declared.end.End.TheVariants as ends
use Rattle.cli_call.specs.Prelude.{ClockedEnd, CutByRead, CutByWrite, Ran}

module _ {M S : Type 0} (state : M → S) (m : Meaning S) (IsReady : ℕ → List ℕ → ℕ → S → World → Type 0) (IsShipped : List ℕ → Type 0) (entry : ℕ) (timing : Timing) where
  module _ (bound : ℕ) (program : VerifiedView) (old new : OutsideView) (board : BoardView M) where
    -- what is known of a board that was clocked between these
    pub record IsClocked : Type 0 where
      pub files : new.files ≡ old.files
      pub run : NoFault None board.end →
          HasRun state m IsReady IsShipped entry timing program bound old.console.left old.out.held new.console.left new.out.held board
      pub read : board.end ≡ Some ends.ReadFault →
          IsCutByRead state m IsReady IsShipped entry timing program bound old.console.left old.out.held new.console.left new.out.held board
      pub write : board.end ≡ Some ends.WriteFault →
          IsCutByWrite state m IsReady IsShipped entry timing program bound old.console.left old.out.held new.console.left new.out.held board
      pub flushed : board.end ≢ Some ends.WriteFault → StaysFlushed old.out.held old.out.passed new.out.held new.out.passed
      pub cause : HasEndCause old.console.faults new.console.faults old.out.faults new.out.faults None board.end

    -- the end of the definition's run is the board's
    agrees : (run : HasRun state m IsReady IsShipped entry timing program bound old.console.left old.out.held new.console.left new.out.held board) →
        (end : End) → board.end ≡ Some end → end ≡ board_end run.begins.finish.end
    agrees run end e = same_Some end (board_end run.begins.finish.end) (sym e ∙ sym run.end ∙ run.agrees.end)

    whole : (end : End) (status : ℕ) → IsClocked → board.end ≡ Some end → NoFault None (Some end) → (Some end ≡ Some ends.ReadFault → ⊥) → (Some end ≡ Some ends.WriteFault → ⊥) →
        Says old.err new.err (report_on state m end board) (status_of end) status →
        ClockedEnd state m IsReady IsShipped entry timing bound program old new status
    whole end status r e none unread unwritten says =
        let run : HasRun state m IsReady IsShipped entry timing program bound old.console.left old.out.held new.console.left new.out.held board =
        r.run (subst (NoFault None) (sym e) none) in
        Ran board run r.files (r.cause.source_same (λ _ q. unread (sym e ∙ q))) (r.cause.sink_same (λ _ q. unwritten (sym e ∙ q))) (r.flushed (λ q. unwritten (sym e ∙ q)))
        (subst (λ (x : End). Says old.err new.err (report_on state m x board) (status_of x) status) (agrees run end e) says)

    pub ends_by : (end : End) (status : ℕ) → IsClocked → board.end ≡ Some end →
        Says old.err new.err (report_on state m end board) (status_of end) status →
        ClockedEnd state m IsReady IsShipped entry timing bound program old new status
    ends_by ends.ReadFault status r e says =
        let unwritten : board.end ≢ Some ends.WriteFault = λ q. let c : Some ends.ReadFault ≡ Some ends.WriteFault = sym e ∙ q in cc in
        CutByRead board (r.read e) r.files (r.cause.read refl e) (r.cause.sink_same (λ _. unwritten)) (r.flushed unwritten) says
    ends_by ends.WriteFault status r e says =
        CutByWrite board (r.write e) r.files (r.cause.source_same (λ _ q. let c : Some ends.WriteFault ≡ Some ends.ReadFault = sym e ∙ q in cc)) (r.cause.write refl e) says
    ends_by ends.Halt status r e says = whole ends.Halt status r e tt (λ q. cc) (λ q. cc) says
    ends_by x status r e says = whole x status r e tt (λ q. cc) (λ q. cc) says
