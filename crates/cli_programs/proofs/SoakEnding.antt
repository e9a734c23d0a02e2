-- How `soak` ends: a plain source and a plain sink never fail, so the run is never cut.
use Rattle.cli_programs.proofs.Common.{◌≡◌, ◌∙◌, ℕ, List, [], length, Option, Some, None, refl, sym, subst, no_rise, World, End, ImageView, Timing}
use Rattle.cli_programs.proofs.Common.{VerifiedView, board_end, HasRun, LentView, Over, PrintsOnOut, status_of, soak_summary, soak_bound, IsGenerated, SoakEnds}
use Rattle.cli_programs.specs.SoakEnds.{Ran}
use Rattle.mic_clock.specs.declared.end.End.TheVariants as ends
use Rattle.mic_clock.specs.Prelude.{Meaning, NoFault, HasEndCause, BoardView}

some_is : {A : Type 0} → (x y : A) → Some x ≡ Some y → x ≡ y
some_is x y e = cc

unfailed : (end : Option End) → HasEndCause 0 0 0 0 None end → NoFault None end
unfailed (Some ends.ReadFault) c = no_rise (c.read refl refl)
unfailed (Some ends.WriteFault) c = no_rise (c.write refl refl)
unfailed _ c = tt

module _ {M S : Type 0} (state : M → S) (m : Meaning S) (IsReady : ℕ → List ℕ → ℕ → S → World → Type 0) (IsShipped : List ℕ → Type 0) (entry : ℕ) (timing : Timing) where
  -- the summary by the end of the definition's run, and by the size of the generated text
  pub ends_by : (seed size : ℕ) (program : VerifiedView) (begun left : Option (List ℕ)) (board : BoardView M) (end : End) (old new : LentView) (status : ℕ) →
      IsGenerated seed size program → begun ≡ Some [] →
      (NoFault None board.end → HasRun state m IsReady IsShipped entry timing program soak_bound begun None left None board) →
      HasEndCause 0 0 0 0 None board.end → board.end ≡ Some end →
      Over (PrintsOnOut (soak_summary (length program.image.text) end board.counts (m.registers (state board.machine)).tos) (status_of end)) old new status →
      Over (SoakEnds state m IsReady IsShipped entry timing seed size) old new status
  ends_by seed size program begun left board end old new status is none run cause ended prints =
      let tos : ℕ = (m.registers (state board.machine)).tos in
      let r : HasRun state m IsReady IsShipped entry timing program soak_bound (Some []) None left None board =
      subst (λ (x : Option (List ℕ)). HasRun state m IsReady IsShipped entry timing program soak_bound x None left None board) none (run (unfailed board.end cause)) in
      let agrees : end ≡ board_end r.begins.finish.end = some_is end (board_end r.begins.finish.end) (sym ended ∙ (sym r.end ∙ r.agrees.end)) in
      let by_end : PrintsOnOut (soak_summary (length program.image.text) (board_end r.begins.finish.end) board.counts tos) (status_of (board_end r.begins.finish.end)) old.seen new.seen status =
      subst (λ (x : End). PrintsOnOut (soak_summary (length program.image.text) x board.counts tos) (status_of x) old.seen new.seen status) agrees prints.does in
      record {
        names = prints.names;
        does = Ran program is left board r
            (subst (λ (x : ImageView). PrintsOnOut (soak_summary (length x.text) (board_end r.begins.finish.end) board.counts tos) (status_of (board_end r.begins.finish.end)) old.seen new.seen status)
            is.image_is by_end);
      }
