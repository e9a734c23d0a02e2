-- How a command ends that first read a program and a microprogram, or failed to.
use Rattle.cli_clocked.proofs.Common.{ℕ, List, Machine, VerifiedView, MalView, LentView, OutsideView, Over, IsHad, IsNotHad, IsAcceptedProgram, IsRefusedProgram}
use Rattle.cli_clocked.proofs.Common.{Job, NoneChosen, Clocked, EndsPrepared, IsPrepared, IsUnprepared, NoMicroprogram, NoProgram, Unprepared}

module _ {machine : Machine} {job : Job (List ℕ)} {old new : LentView} {status : ℕ} where
  pub no_program : Over (IsNotHad (IsRefusedProgram job.map) job.file) old new status → Over (IsUnprepared machine job) old new status
  no_program over = record { names = over.names; does = NoProgram over.does }

  pub no_microprogram : (program : VerifiedView) → IsHad (IsAcceptedProgram job.map) job.file old.seen program →
      Over (NoneChosen machine job.own) old new status → Over (IsUnprepared machine job) old new status
  no_microprogram program had over = record { names = over.names; does = NoMicroprogram program had over.does }

  module _ {Runs : MalView → VerifiedView → OutsideView → OutsideView → ℕ → Type 0} where
    pub unprepared : Over (IsUnprepared machine job) old new status → Over (EndsPrepared machine job Runs) old new status
    unprepared over = record { names = over.names; does = Unprepared over.does }

    pub clocked : (micro : MalView) (program : VerifiedView) → IsPrepared machine job old.seen micro program → Over (Runs micro program) old new status →
        Over (EndsPrepared machine job Runs) old new status
    clocked micro program prepared over = record { names = over.names; does = Clocked micro program prepared over.does }
