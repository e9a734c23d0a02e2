use Rattle.cli_call.proofs.Common.{◌≡◌, ◌≢◌, ℕ, List, Some, Contents, Mic1, Mic2, MemoryMap, IsReady as IsReady1, mic1_meaning, micro_of as micro_of1}
use Rattle.cli_call.proofs.Common.{mic2_meaning, HasShipped, timing_of, VerifiedView, OutsideView, Run, IsAcceptedProgram, IsRefusedProgram}
use Rattle.mic2_datapath.specs.Prelude.{IsReady as IsReady2, micro_of as micro_of2}
use Rattle.cli_outside.specs.Status as exits
use Rattle.cli_call.specs.Prelude.{CallsAgree, CallsEndAlike, IsQuiet, CallEnds}
use Rattle.cli_call.specs.CallEnds.{Done, NoRoom}
use Rattle.cli_call.proofs.Agreeing.{said}
use Rattle.cli_call.proofs.Machines.{BoardsAgree, end_alike}
use Rattle.cli_call.proofs.TwoCalls.{both_end}
use Rattle.cli_call.proofs.laws.run_agrees_on_both_machines.Goals as goal

module _ (boards : BoardsAgree micro_of1 mic1_meaning IsReady1 (HasShipped Mic1) 0x002 (timing_of Mic1) micro_of2 mic2_meaning IsReady2 (HasShipped Mic2) 0x002 (timing_of Mic2))
    (one_program : (map : MemoryMap) (bytes : List ℕ) (p q : VerifiedView) → IsAcceptedProgram map bytes p → IsAcceptedProgram map bytes q → p ≡ q)
    (not_both : (map : MemoryMap) (bytes reason : List ℕ) (p : VerifiedView) → IsAcceptedProgram map bytes p → IsRefusedProgram map bytes reason → ⊥)
    (file : List ℕ) (map : MemoryMap) (bound bound' : ℕ) (input : List ℕ) (contents : Contents) (old one other : OutsideView) (status status' : ℕ)
    (left : old.console.left ≡ Some input) (tells : old.files.contents ≡ Some contents) (quiet : IsQuiet old one status) (quiet' : IsQuiet old other status')
    (free : status ≢ exits.bound) (free' : status' ≢ exits.bound) where
  calls_alike : CallEnds (Some (Run file Mic1 bound map)) old one status → CallEnds (Some (Run file Mic2 bound' map)) old other status' →
      CallsAgree (CallsEndAlike old one other status status') status status'
  calls_alike (NoRoom short) ends = absurd (quiet.memory (said old.err one.err _ _ status quiet.err short.says).0)
  calls_alike (Done ends) (NoRoom short) = absurd (quiet'.memory (said old.err other.err _ _ status' quiet'.err short.says).0)
  calls_alike (Done ends) (Done ends') =
      both_end (IsRefusedProgram map) (IsAcceptedProgram map) file old contents tells (one_program map) (not_both map) _ _ one other status status' _
      (λ program does does'.
      end_alike micro_of1 mic1_meaning IsReady1 (HasShipped Mic1) 0x002 (timing_of Mic1) micro_of2 mic2_meaning IsReady2 (HasShipped Mic2) 0x002 (timing_of Mic2)
      program bound bound' input old one other status status' boards left does does' quiet quiet' free free') quiet quiet' ends ends'

pub returns : goal.returns
returns c =
    λ file map bound bound' input contents old one other status status' left tells ends ends' quiet quiet' free free'.
    calls_alike c.interpreters_agree.ensures c.a_file_has_one_program.ensures.one_program c.a_file_has_one_program.ensures.not_both
    file map bound bound' input contents old one other status status' left tells quiet quiet' free free' ends ends'
