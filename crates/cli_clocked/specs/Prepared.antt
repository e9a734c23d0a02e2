-- What a command clocks, a program and a microprogram, and how a command ends that first reads both from files.
use Rattle.std.specs.Prelude.{ℕ, List}
use Rattle.cli_clocked.specs.Common.{Bor, Machine, VerifiedView, MalView, OutsideView, name_in, IsHad, HasNoProgram, IsAcceptedProgram}
use Rattle.cli_clocked.specs.Own.{IsChosenMicroprogram, NoneChosen}
use Rattle.cli_clocked.specs.declared.job.Job.{Job}
use Rattle.cli_clocked.specs.declared.preparing.Prepared.{Prepared}

-- a job, with its names as they are read
abbrev pub job_in : Job (Bor (List ℕ)) → Job (List ℕ)
job_in job = record { file = job.file.now; own = name_in job.own; bound = job.bound; map = job.map }

module _ (machine : Machine) (job : Job (List ℕ)) where
  -- both are available
  pub record IsPrepared (o : OutsideView) (micro : MalView) (program : VerifiedView) : Type 0 where
    pub had : IsHad (IsAcceptedProgram job.map) job.file o program
    pub chosen : IsChosenMicroprogram machine job.own o micro

  abbrev pub HasPrepared : OutsideView → Prepared → Type 0
  HasPrepared o prepared = IsPrepared o prepared.micro.program prepared.program

  -- one is not, and the reason is printed: the program's file is looked at first, then the microprogram's
  pub data IsUnprepared (old new : OutsideView) (status : ℕ) : Type 0 where
    NoProgram : HasNoProgram job.map job.file old new status → IsUnprepared old new status
    NoMicroprogram : (program : VerifiedView) → IsHad (IsAcceptedProgram job.map) job.file old program → NoneChosen machine job.own old new status →
        IsUnprepared old new status

  -- `Runs micro program old new status` says how the run of the one by the other went.
  pub data EndsPrepared (Runs : MalView → VerifiedView → OutsideView → OutsideView → ℕ → Type 0) (old new : OutsideView) (status : ℕ) : Type 0 where
    Unprepared : IsUnprepared old new status → EndsPrepared Runs old new status
    Clocked : (micro : MalView) (program : VerifiedView) → IsPrepared old micro program → Runs micro program old new status →
        EndsPrepared Runs old new status
