use Rattle.cli_call.proofs.Common.{◌≡◌, ℕ, List, Some, Contents, Machine, Mic1, Mic2, MemoryMap, IsReady as IsReady1, mic1_meaning, micro_of as micro_of1}
use Rattle.cli_call.proofs.Common.{mic2_meaning, HasShipped, VerifiedView, OutsideView, Reference, Run, IsAcceptedProgram, IsRefusedProgram}
use Rattle.mic2_datapath.specs.Prelude.{IsReady as IsReady2, micro_of as micro_of2}
use Rattle.cli_call.specs.Prelude.{Agrees, CallsAgree, IsQuiet, CallEnds, EndsAs}
use Rattle.cli_call.specs.CallEnds.{Done, NoRoom}
use Rattle.cli_call.proofs.Agreeing.{OneEnd, agree, said}
use Rattle.cli_call.proofs.TwoCalls.{both_end}
use Rattle.cli_call.proofs.laws.run_agrees_with_reference.Goals as goal

module _ (one_end : OneEnd) (one_program : (map : MemoryMap) (bytes : List ℕ) (p q : VerifiedView) → IsAcceptedProgram map bytes p → IsAcceptedProgram map bytes q → p ≡ q)
    (not_both : (map : MemoryMap) (bytes reason : List ℕ) (p : VerifiedView) → IsAcceptedProgram map bytes p → IsRefusedProgram map bytes reason → ⊥)
    (file : List ℕ) (map : MemoryMap) (bound : ℕ) (input : List ℕ) (contents : Contents) (old ran told : OutsideView) (status status' : ℕ)
    (left : old.console.left ≡ Some input) (tells : old.files.contents ≡ Some contents) (quiet : IsQuiet old ran status) (quiet' : IsQuiet old told status') where
  both_agree : (machine : Machine) → EndsAs (Some (Run file machine bound map)) old ran status → EndsAs (Some (Reference file machine bound map)) old told status' →
      CallsAgree (Agrees old ran told status status') status status'
  both_agree Mic1 one other =
      both_end (IsRefusedProgram map) (IsAcceptedProgram map) file old contents tells (one_program map) (not_both map) _ _ ran told status status' _
      (λ program does does'. agree micro_of1 mic1_meaning IsReady1 (HasShipped Mic1) 0x002 program bound input old ran told status status' one_end left does does' quiet quiet') quiet quiet' one other
  both_agree Mic2 one other =
      both_end (IsRefusedProgram map) (IsAcceptedProgram map) file old contents tells (one_program map) (not_both map) _ _ ran told status status' _
      (λ program does does'. agree micro_of2 mic2_meaning IsReady2 (HasShipped Mic2) 0x002 program bound input old ran told status status' one_end left does does' quiet quiet') quiet quiet' one other

  calls_agree : (machine : Machine) → CallEnds (Some (Run file machine bound map)) old ran status → CallEnds (Some (Reference file machine bound map)) old told status' →
      CallsAgree (Agrees old ran told status status') status status'
  calls_agree machine (NoRoom short) other = absurd (quiet.memory (said old.err ran.err _ _ status quiet.err short.says).0)
  calls_agree machine (Done one) (NoRoom short) = absurd (quiet'.memory (said old.err told.err _ _ status' quiet'.err short.says).0)
  calls_agree machine (Done one) (Done other) = both_agree machine one other

pub returns : goal.returns
returns c =
    λ machine file map bound input contents old ran told status status' left tells one other quiet quiet'.
    calls_agree c.runs_end_once.ensures.one c.a_file_has_one_program.ensures.one_program c.a_file_has_one_program.ensures.not_both
    file map bound input contents old ran told status status' left tells quiet quiet' machine one other
