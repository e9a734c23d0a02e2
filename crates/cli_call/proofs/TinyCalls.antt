-- Calls of `tiny` over one text are as its program means.
use Rattle.cli_call.proofs.Common.{◌≡◌, ◌⊎◌, inl, inr, ◌∙◌, ◌<◌, ◌≤◌, ℕ, List, length, Option, Some, refl, sym, ap, subst, arith, Contents, Tells, file_in}
use Rattle.cli_call.proofs.Common.{most_bytes, Machine, Mic1, Mic2, World, Meaning, IsReady as IsReady1, mic1_meaning, micro_of as micro_of1, mic2_meaning}
use Rattle.cli_call.proofs.Common.{HasShipped, RunEnd, Timing, timing_of, TimedImage, Point, Finish, EndsBy, Passes, first_point, VerifiedView, board_end}
use Rattle.cli_call.proofs.Common.{Program, Ended, meaning, TinyError, HasNoCode, IsCompiled, OutsideView, Ends, status_of, IsRefusedTiny, Tiny}
use Rattle.mic2_datapath.specs.Prelude.{IsReady as IsReady2, micro_of as micro_of2}
use Rattle.ijvm_meaning.specs.declared.run.RunEnd.TheVariants as defined
use Rattle.tiny_runs.specs.Prelude.{IsPrefix, RunsAsMeant, output, runs_of}
use Rattle.cli_outside.specs.Status as exits
use Rattle.cli_call.specs.Prelude.{ClockedEnd, CutByRead, CutByWrite, Ran, IsQuiet, CallEnds, EndsAs, CallsAreAsMeant, Cut, EndsAsMeant, HasEnded, HasGot, IsTinyCall, SomeBound, Whole}
use Rattle.cli_call.specs.ClockedEnd as clocked
use Rattle.cli_call.specs.CallEnds.{Done, NoRoom}
use Rattle.cli_call.proofs.Agreeing.{OneEnd, said, told_input}
use Rattle.cli_call.proofs.AtLimit.{given_at_last}
use Rattle.cli_call.proofs.TwoCalls.{IsDone, IsLong, IsRefusal, outcome, same_bytes}

-- the content that a file has in the files is its text
same_text : (told : Option Contents) (contents : Contents) (name text bytes : List ℕ) → told ≡ Some contents → file_in contents name ≡ Some text → Tells told name bytes → bytes ≡ text
same_text told contents name text bytes tells has other =
    same_bytes told contents name bytes text tells other (subst (λ (t : Option Contents). Tells t name text) (sym tells) has)

-- ---- the runs of a program

abbrev LastIsPassed : Type 0
LastIsPassed = (p : TimedImage) (bound : ℕ) (from : Point) (f : Finish) → EndsBy p bound from f → Passes p bound from f.last

module _ (program : Program) (v : VerifiedView) (timing : Timing) (input : List ℕ) where
  abbrev runs : TimedImage
  runs = runs_of v.image v.map.stack_end timing

  abbrev EndsSo : ℕ → Finish → Type 0
  EndsSo bound f = EndsBy runs bound (first_point runs v.main_locals input) f

  -- what a call came to that ran to this end
  record Came (bound : ℕ) (f : Finish) (old new : OutsideView) (status : ℕ) : Type 0 where
    pub ends : EndsSo bound f
    pub status_is : status ≡ status_of (board_end f.end)
    pub got : HasGot old new f.left.given
    pub left : new.console.left ≡ Some f.left.untaken

  abbrev Comes : ℕ → OutsideView → OutsideView → ℕ → Type 0
  Comes bound old new status = (f : Finish) × Came bound f old new status

  module _ (one : OneEnd) (last : LastIsPassed) (means : RunsAsMeant program runs v.main_locals) where
    status_by : (bound : ℕ) (f : Finish) (old new : OutsideView) (status : ℕ) (end : RunEnd) → Came bound f old new status → f.end ≡ end → status ≡ status_of (board_end end)
    status_by bound f old new status end came e = came.status_is ∙ ap (λ (x : RunEnd). status_of (board_end x)) e

    cut : (bound : ℕ) (f : Finish) (old new : OutsideView) (status : ℕ) → Came bound f old new status →
        (status ≡ exits.bound) ⊎ (status ≡ exits.stack_limit) → EndsAsMeant program input old new status
    cut bound f old new status came which =
        let front = (means input).prefix bound f.last (last runs bound (first_point runs v.main_locals input) f came.ends) in
        Cut front.0 f.left.given
        (subst (λ (given : List ℕ). IsPrefix given (output (meaning program input front.0)))
        (sym (given_at_last runs bound (first_point runs v.main_locals input) f came.ends)) front.1)
        came.got which

    by_end : (bound : ℕ) (f : Finish) (old new : OutsideView) (status : ℕ) (end : RunEnd) → f.end ≡ end → Came bound f old new status → EndsAsMeant program input old new status
    by_end bound f old new status defined.Halt e came =
        let whole = (means input).halts bound f came.ends e in
        Whole whole.0 f.left.given f.left.untaken whole.1
        (record { done = status_by bound f old new status defined.Halt came e; got = came.got; left = came.left })
    by_end bound f old new status defined.Err e came = absurd ((means input).never_errs bound f came.ends e)
    by_end bound f old new status defined.Bound e came = cut bound f old new status came (inl (status_by bound f old new status defined.Bound came e))
    by_end bound f old new status defined.StackLimit e came = cut bound f old new status came (inr (status_by bound f old new status defined.StackLimit came e))

    as_meant : (bound : ℕ) (old new : OutsideView) (status : ℕ) → Comes bound old new status → EndsAsMeant program input old new status
    as_meant bound old new status c = by_end bound c.0 old new status c.0.end refl c.1

    -- the end that some bound has is that of every call with this bound
    the_end : (bound : ℕ) (f : Finish) (old new : OutsideView) (status : ℕ) → EndsSo bound f → Comes bound old new status → Came bound f old new status
    the_end bound f old new status ends c =
        subst (λ (g : Finish). Came bound g old new status) (one runs bound (first_point runs v.main_locals input) c.0 f c.1.ends ends) c.1

    ended_so : (bound : ℕ) (f : Finish) (given untaken : List ℕ) (old new : OutsideView) (status : ℕ) → Came bound f old new status →
        (f.end ≡ defined.StackLimit) ⊎ ((f.end ≡ defined.Halt) × (f.left.given ≡ given) × (f.left.untaken ≡ untaken)) →
        (status ≡ exits.stack_limit) ⊎ HasEnded given untaken old new status
    ended_so bound f given untaken old new status came (inl limit) = inl (status_by bound f old new status defined.StackLimit came limit)
    ended_so bound f given untaken old new status came (inr halt) =
        inr (record {
          done = status_by bound f old new status defined.Halt came halt.0;
          got = subst (HasGot old new) halt.1 came.got;
          left = came.left ∙ ap (λ (rest : List ℕ). Some rest) halt.2;
        })

    reached_so : (bound : ℕ) (f : Finish) (front : List ℕ) (old new : OutsideView) (status : ℕ) → Came bound f old new status →
        (f.end ≡ defined.StackLimit) ⊎ IsPrefix front f.left.given →
        (status ≡ exits.stack_limit) ⊎ ((given : List ℕ) × IsPrefix front given × HasGot old new given)
    reached_so bound f front old new status came (inl limit) = inl (status_by bound f old new status defined.StackLimit came limit)
    reached_so bound f front old new status came (inr prefix) = inr (f.left.given, prefix, came.got)

    module _ (IsCall : ℕ → OutsideView → OutsideView → ℕ → Type 0)
        (comes : (bound : ℕ) (old new : OutsideView) (status : ℕ) → IsCall bound old new status → Comes bound old new status) where
      calls_end : (bound : ℕ) (old new : OutsideView) (status : ℕ) → IsCall bound old new status → EndsAsMeant program input old new status
      calls_end bound old new status call = as_meant bound old new status (comes bound old new status call)

      calls_ended : (n : ℕ) (given untaken : List ℕ) → meaning program input n ≡ Ended given untaken → SomeBound IsCall (HasEnded given untaken)
      calls_ended n given untaken e =
          let some = (means input).ended n given untaken e in (
            some.0,
            λ old new status call.
                ended_so some.0 some.1 given untaken old new status (the_end some.0 some.1 old new status some.2 (comes some.0 old new status call)) some.3,
          )

      calls_reach : (n : ℕ) → SomeBound IsCall (λ old new status. (given : List ℕ) × IsPrefix (output (meaning program input n)) given × HasGot old new given)
      calls_reach n =
          let some = (means input).reaches n in (
            some.0,
            λ old new status call.
                reached_so some.0 some.1 (output (meaning program input n)) old new status (the_end some.0 some.1 old new status some.2 (comes some.0 old new status call)) some.3,
          )

-- ---- what a call comes to

module _ {M S : Type 0} (state : M → S) (m : Meaning S) (IsReady : ℕ → List ℕ → ℕ → S → World → Type 0) (IsShipped : List ℕ → Type 0) (entry : ℕ) (timing : Timing) where
  clocked_comes : (program : Program) (v : VerifiedView) (input : List ℕ) (bound : ℕ) (old new : OutsideView) (status : ℕ) → old.console.left ≡ Some input → IsQuiet old new status →
      ClockedEnd state m IsReady IsShipped entry timing bound v old new status → Comes program v timing input bound old new status
  clocked_comes program v input bound old new status left quiet (clocked.NoRoom tells) = absurd (quiet.memory (said old.err new.err _ _ status quiet.err tells.says).0)
  clocked_comes program v input bound old new status left quiet (Ran board run files console out flushed says) = (
    run.begins.finish,
    record {
      ends =
          subst (λ (i : List ℕ). EndsBy (runs_of v.image v.map.stack_end timing) bound (first_point (runs_of v.image v.map.stack_end timing) v.main_locals i) run.begins.finish)
          (told_input old.console.left input run.begins.input left run.begins.told) run.begins.finishes;
      status_is = (said old.err new.err _ _ status quiet.err says).0;
      got = run.given;
      left = run.untaken input left;
    },
  )
  clocked_comes program v input bound old new status left quiet (CutByRead board cut files rose out flushed says) = absurd (quiet.console rose)
  clocked_comes program v input bound old new status left quiet (CutByWrite board cut files console rose says) = absurd (quiet.out rose)

module _ (one_program : (text : List ℕ) (v w : VerifiedView) → IsCompiled text v → IsCompiled text w → v ≡ w)
    (not_both : (text : List ℕ) (v : VerifiedView) (e : TinyError) → IsCompiled text v → HasNoCode text e → ⊥)
    (text : List ℕ) (v : VerifiedView) (short : length text ≤ most_bytes) (compiled : IsCompiled text v) where
  module _ (Does : VerifiedView → OutsideView → OutsideView → ℕ → Type 0) (file : List ℕ) (contents : Contents) (old new : OutsideView) (status : ℕ)
      (tells : old.files.contents ≡ Some contents) (has : file_in contents file ≡ Some text) (quiet : IsQuiet old new status) where
    ran : IsRefusal IsRefusedTiny IsCompiled file old status ⊎ (IsLong IsRefusedTiny IsCompiled file old status ⊎ IsDone IsRefusedTiny IsCompiled file old Does new status) →
        Does v old new status
    ran (inl r) =
        let refuses : IsRefusedTiny text r.1 = subst (λ (b : List ℕ). IsRefusedTiny b r.1) (same_text old.files.contents contents file text r.0 tells has r.2.has) r.3 in
        absurd (not_both text v refuses.error compiled refuses.refused)
    ran (inr (inl r)) =
        let few : length r.0 ≤ most_bytes = subst (λ (b : List ℕ). length b ≤ most_bytes) (sym (same_text old.files.contents contents file text r.0 tells has r.1)) short in
        let long : most_bytes < length r.0 = r.2 in
        absurd (omega (arith, few, long))
    ran (inr (inr r)) =
        let its : IsCompiled text r.0 = subst (λ (b : List ℕ). IsCompiled b r.0) (same_text old.files.contents contents file text r.1.bytes tells has r.1.read.has) r.1.is in
        subst (λ (w : VerifiedView). Does w old new status) (one_program text r.0 v its compiled) r.2

    -- the call runs what the text compiles to
    does : Ends IsRefusedTiny IsCompiled Does file old new status → Does v old new status
    does ends = ran (outcome IsRefusedTiny IsCompiled file old Does new status quiet ends)

  module _ (program : Program) (input : List ℕ) (bound : ℕ) (old new : OutsideView) (status : ℕ) where
    by_machine : (machine : Machine) (file : List ℕ) (contents : Contents) → old.files.contents ≡ Some contents → file_in contents file ≡ Some text → old.console.left ≡ Some input →
        IsQuiet old new status → EndsAs (Some (Tiny file machine bound)) old new status → Comes program v (timing_of machine) input bound old new status
    by_machine Mic1 file contents tells has left quiet ends =
        clocked_comes micro_of1 mic1_meaning IsReady1 (HasShipped Mic1) 0x002 (timing_of Mic1) program v input bound old new status left quiet
        (does _ file contents old new status tells has quiet ends)
    by_machine Mic2 file contents tells has left quiet ends =
        clocked_comes micro_of2 mic2_meaning IsReady2 (HasShipped Mic2) 0x002 (timing_of Mic2) program v input bound old new status left quiet
        (does _ file contents old new status tells has quiet ends)

    by_call : (machine : Machine) (file : List ℕ) (contents : Contents) → old.files.contents ≡ Some contents → file_in contents file ≡ Some text → old.console.left ≡ Some input →
        IsQuiet old new status → CallEnds (Some (Tiny file machine bound)) old new status → Comes program v (timing_of machine) input bound old new status
    by_call machine file contents tells has left quiet (NoRoom told) = absurd (quiet.memory (said old.err new.err _ _ status quiet.err told.says).0)
    by_call machine file contents tells has left quiet (Done ends) = by_machine machine file contents tells has left quiet ends

    call_comes : (machine : Machine) → IsTinyCall text input machine bound old new status → Comes program v (timing_of machine) input bound old new status
    call_comes machine call = by_call machine call.file call.contents call.tells call.has call.left call.quiet call.ends

  pub calls_are_as_meant : OneEnd → LastIsPassed → (program : Program) (input : List ℕ) (machine : Machine) →
      RunsAsMeant program (runs_of v.image v.map.stack_end (timing_of machine)) v.main_locals → CallsAreAsMeant text program input machine
  calls_are_as_meant one last program input machine means =
      let comes = λ (bound : ℕ) (old new : OutsideView) (status : ℕ) (call : IsTinyCall text input machine bound old new status).
      call_comes program input bound old new status machine call in
      record {
        ends = calls_end program v (timing_of machine) input one last means (IsTinyCall text input machine) comes;
        ended = calls_ended program v (timing_of machine) input one last means (IsTinyCall text input machine) comes;
        reaches = calls_reach program v (timing_of machine) input one last means (IsTinyCall text input machine) comes;
      }
