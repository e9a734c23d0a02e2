use Rattle.cli_call.proofs.Common.{◌≡◌, ℕ, List, Some, None, subst, Contents, Mic1, MemoryMap, HasOneEnd, mic1_meaning, micro_of, MalView, Loaded}
use Rattle.cli_call.proofs.Common.{listed_program, IsLoadedFor, HasShipped, VerifiedView, OutsideView, Did, Ends, NotHad, Cache, Run, IsAcceptedProgram}
use Rattle.cli_call.proofs.Common.{IsRefusedProgram, IsCached, EndsCache, Unprepared, Clocked, NoProgram, NoMicroprogram}
use Rattle.cli_call.specs.Prelude.{CallsAgree, CountsTheRun, IsQuiet, CallEnds}
use Rattle.cli_call.specs.CallEnds.{Done, NoRoom}
use Rattle.cli_call.proofs.Agreeing.{said}
use Rattle.cli_call.proofs.CachedRun.{cache_counts}
use Rattle.cli_call.proofs.TwoCalls.{both_end}
use Rattle.cli_call.proofs.laws.cache_counts_the_run.Goals as goal

module _ (one_end : HasOneEnd mic1_meaning) (words : (l : Loaded) → IsLoadedFor Mic1 l → HasShipped Mic1 l.store.words)
    (entry : (l : Loaded) → IsLoadedFor Mic1 l → l.entry ≡ 0x002)
    (one_program : (map : MemoryMap) (bytes : List ℕ) (p q : VerifiedView) → IsAcceptedProgram map bytes p → IsAcceptedProgram map bytes q → p ≡ q)
    (not_both : (map : MemoryMap) (bytes reason : List ℕ) (p : VerifiedView) → IsAcceptedProgram map bytes p → IsRefusedProgram map bytes reason → ⊥)
    (file : List ℕ) (map : MemoryMap) (lines bound : ℕ) (input : List ℕ) (contents : Contents) (old ran cached : OutsideView) (status status' : ℕ)
    (left : old.console.left ≡ Some input) (tells : old.files.contents ≡ Some contents) (quiet : IsQuiet old ran status) (quiet' : IsQuiet old cached status') where
  abbrev Caches : VerifiedView → OutsideView → OutsideView → ℕ → Type 0
  Caches = IsCached micro_of mic1_meaning lines bound (listed_program Mic1)

  -- the microprogram of `cache` is the one that ships
  ends_over : EndsCache micro_of mic1_meaning lines (record { file = file; own = None; bound = bound; map = map }) old cached status' →
      Ends (IsRefusedProgram map) (IsAcceptedProgram map) Caches file old cached status'
  ends_over (Unprepared (NoProgram none)) = NotHad none
  ends_over (Unprepared (NoMicroprogram program had short)) = absurd (quiet'.memory (said old.err cached.err _ _ status' quiet'.err short.says).0)
  ends_over (Clocked micro program prepared does) =
      Did program prepared.had (subst (λ (m : MalView). IsCached micro_of mic1_meaning lines bound m program old cached status') prepared.chosen does)

  calls_agree : CallEnds (Some (Run file Mic1 bound map)) old ran status → CallEnds (Some (Cache file lines bound map)) old cached status' →
      CallsAgree (CountsTheRun input lines bound old ran cached status status') status status'
  calls_agree (NoRoom short) ends = absurd (quiet.memory (said old.err ran.err _ _ status quiet.err short.says).0)
  calls_agree (Done ends) (NoRoom short) = absurd (quiet'.memory (said old.err cached.err _ _ status' quiet'.err short.says).0)
  calls_agree (Done ends) (Done ends') =
      both_end (IsRefusedProgram map) (IsAcceptedProgram map) file old contents tells (one_program map) (not_both map) _ Caches ran cached status status' _
      (λ program does does'. cache_counts one_end words entry program lines bound input old ran cached status status' left quiet quiet' does does')
      quiet quiet' ends (ends_over ends')

pub returns : goal.returns
returns c =
    λ file map lines bound input contents old ran cached status status' left tells ends ends' quiet quiet'.
    calls_agree c.one_end.ensures (c.loaded_programs_are_shipped.ensures.words Mic1) (c.loaded_programs_are_shipped.ensures.entry Mic1)
    c.a_file_has_one_program.ensures.one_program c.a_file_has_one_program.ensures.not_both
    file map lines bound input contents old ran cached status status' left tells quiet quiet' ends ends'
