-- How a session that is over ends its command.
use Rattle.cli_debug.proofs.Common.{◌≡◌, ◌≢◌, ◌∙◌, ℕ, Bool, List, Option, Some, None, refl, sym, ap, subst, IfSome, append-nil, Meaning, VerifiedView, MalView}
use Rattle.cli_debug.proofs.Common.{Loaded, OutsideView, TellsOnErr, Step}
use Rattle.mic_debugger.specs.Prelude.{SessionView}
use Rattle.cli_outside.specs.Status as exits
use Rattle.cli_session.specs.declared.lines.Step.TheVariants as steps
use Rattle.cli_session.specs.Prelude.{IsCutIn, IsNext, IsReadOut, most_lines, Place, place, ConsoleFailed, Goes, On, Over, SinkFailed}
use Rattle.cli_debug.specs.Prelude.{is_quit, DebuggingView, debugging, debugging_view, Cut, IsDebugged, IsStart, Left, Stopped, report_in}

told_as : (left : Option (List ℕ)) (P Q : List ℕ → Type 0) → IfSome left P → ((bytes : List ℕ) → P bytes → Q bytes) → IfSome left Q
told_as None P Q p f = tt
told_as (Some bytes) P Q p f = f bytes p

-- by its start, a session ends at the lines that end it over the program's memory
same_quits : {M State : Type 0} {state : M → State} {m : Meaning State} {bound : ℕ} {micro : MalView} {l : Loaded} {program : VerifiedView} {first : SessionView M} →
    IsStart state m bound micro l program first → is_quit first.listing.memory ≡ is_quit program.map.stack_end
same_quits {M = M} start = ap (λ (v : SessionView M). is_quit v.listing.memory) start.begun

module _ {M State : Type 0} {state : M → State} {m : Meaning State} {bound : ℕ} {micro : MalView} {l : Loaded} {program : VerifiedView} {input : List ℕ}
    {first : SessionView M} {old : OutsideView} {last : Place (DebuggingView M)} (start : IsStart state m bound micro l program first) where
  -- the session was left, or its lines are at their end
  pub left_by : {new : OutsideView} {status : ℕ} (step : Step) → step ≢ steps.ConsoleFailed → step ≢ steps.SinkFailed →
      Goes (debugging state m) most_lines 0 (place (debugging_view first input) old) last step → TellsOnErr (report_in state m last.session.session) exits.done last.seen new status →
      IsDebugged state m bound micro program input old new status
  left_by _ p q (On lines done quiet told) tells =
      Left l first lines last start done
      (rw tells.console (told_as old.console.left _ _ told
      (λ bytes t. subst (λ (k : List ℕ → Bool). IsReadOut k most_lines bytes lines last.seen.console.left) (same_quits start)
      (record { whole = sym (t.2.whole ∙ append-nil lines); left_is = t.1 ∙ ap Some (sym t.2.rest_is) }))))
      (rw tells.console quiet) tells
  left_by _ p q (Over lines done quiet told) tells =
      Left l first lines last start done
      (rw tells.console (told_as old.console.left _ _ told (λ bytes t. subst (λ (k : List ℕ → Bool). IsReadOut k most_lines bytes lines last.seen.console.left) (same_quits start) t)))
      (rw tells.console quiet) tells
  left_by _ p q (ConsoleFailed lines done rose told) tells = absurd (p refl)
  left_by _ p q (SinkFailed lines line mid done quiet told cut) tells = absurd (q refl)

  -- the console failed
  pub cut_by : {new : OutsideView} {status : ℕ} (step : Step) → step ≡ steps.ConsoleFailed →
      Goes (debugging state m) most_lines 0 (place (debugging_view first input) old) last step → TellsOnErr (report_in state m last.session.session) exits.console last.seen new status →
      IsDebugged state m bound micro program input old new status
  cut_by _ p (On lines done quiet told) tells = absurd (cc)
  cut_by _ p (Over lines done quiet told) tells = absurd (cc)
  cut_by _ p (ConsoleFailed lines done rose told) tells =
      Cut l first lines last start done
      (rw tells.console (told_as old.console.left _ _ told (λ bytes t. subst (λ (k : List ℕ → Bool). IsCutIn k most_lines bytes lines last.seen.console.left) (same_quits start) t)))
      (rw tells.console rose) tells
  cut_by _ p (SinkFailed lines line mid done quiet told cut) tells = absurd (cc)

  -- a sink failed
  pub stopped_by : {status : ℕ} (step : Step) → step ≡ steps.SinkFailed → Goes (debugging state m) most_lines 0 (place (debugging_view first input) old) last step →
      status ≡ exits.sink → IsDebugged state m bound micro program input old last.seen status
  stopped_by _ p (On lines done quiet told) is = absurd (cc)
  stopped_by _ p (Over lines done quiet told) is = absurd (cc)
  stopped_by _ p (ConsoleFailed lines done rose told) is = absurd (cc)
  stopped_by _ p (SinkFailed lines line mid done quiet told cut) is =
      Stopped l first lines line mid start done
      (told_as old.console.left _ _ told (λ bytes t. subst (λ (k : List ℕ → Bool). IsNext k most_lines bytes lines line) (same_quits start) t))
      cut quiet is
