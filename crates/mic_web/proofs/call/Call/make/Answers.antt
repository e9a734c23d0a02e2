use Rattle.std.proofs.Common.{◌≡◌, ℕ, List, Option, None, Some, IfNone, IfSome, map, string_bytes, refl, sym, ap, subst}
use Rattle.cli_outside.specs.Outside.{OutsideView}
use Rattle.mic_web.specs.Called.{DoesNotFit, IsMade, IsTold, IsUnfitAfter}
use Rattle.mic_web.specs.Seen.{seen}
use Rattle.mic_web.specs.declared.given.FileSpans.{FileSpans}
use Rattle.mic_web.specs.declared.told.Told.{Told}
use Rattle.mic_web.proofs.call.Call.make.Goals as goal

told_itself : (told : Told) (out err written : List ℕ) (table : List FileSpans) (new : OutsideView) (code : ℕ) →
    IsTold told out err written table new code → IsTold told out err written table new told.status
told_itself told out err written table new code t =
    record { status = refl; out = t.out; err = t.err; left = t.left; count = t.count; files = t.files }

module _ (Ends : List (List ℕ) → OutsideView → OutsideView → ℕ → Type 0) where
  -- the call, at words and a status that are equal
  call_along : (asked wanted : List (List ℕ)) (code status : ℕ) (old new : OutsideView) → asked ≡ wanted → status ≡ code →
      Ends asked old new code → Ends wanted old new status
  call_along asked wanted code status old new same is ends =
      let P : List (List ℕ) → Type 0 = λ w. Ends w old new status in
      let Q : ℕ → Type 0 = λ n. Ends asked old new n in
      subst P same (subst Q (sym is) ends)

  made_of : (asked wanted : List (List ℕ)) (code : ℕ) (old new : OutsideView) (out err written : List ℕ) (table : List FileSpans) →
      asked ≡ wanted → Ends asked old new code →
      (result : Option Told) → IfSome result (λ told. IsTold told out err written table new code) →
      IfSome result (λ told. IsMade Ends wanted old told out err written table)
  made_of asked wanted code old new out err written table same ends None told = tt
  made_of asked wanted code old new out err written table same ends (Some t) told =
      (new, (call_along asked wanted code t.status old new same told.status ends, told_itself t out err written table new code told))

  unfit_of : (asked wanted : List (List ℕ)) (code : ℕ) (old new : OutsideView) (out err written : List ℕ) (table : List FileSpans) →
      asked ≡ wanted → Ends asked old new code →
      (result : Option Told) → IfNone result (DoesNotFit out err written table new) → IfNone result (IsUnfitAfter Ends wanted old out err written table)
  unfit_of asked wanted code old new out err written table same ends None unfit =
      (new, (code, (call_along asked wanted code code old new same refl ends, unfit)))
  unfit_of asked wanted code old new out err written table same ends (Some t) unfit = tt

pub returns-clause-made : goal.returns-clause-made
returns-clause-made g c =
    made_of g.P.Program.Ends _ _ _ _ (seen c.call-status.new.outside) _ _ _ _ (ap (λ words. map string_bytes words) c.deref.ensures.value)
    c.call-status.ensures c.tell.result c.tell.ensures.told

pub returns-clause-none : goal.returns-clause-none
returns-clause-none g c =
    unfit_of g.P.Program.Ends _ _ _ _ (seen c.call-status.new.outside) _ _ _ _ (ap (λ words. map string_bytes words) c.deref.ensures.value)
    c.call-status.ensures c.tell.result c.tell.ensures.none
