-- A call ends as its words ask.
use Rattle.cli_call.proofs.Common.{◌≡◌, ℕ, List, None, Some, Option, ap, subst, sym, MatchOption, Bor, World, HasShipped, Meaning, Timing, Mic2, mic3_meaning}
use Rattle.cli_call.proofs.Common.{pipeline_of, mic3_timing, Text, Asked, HasLimits, asked, Mic3, Processor, CommandName, Request, LentView, Over, name_in}
use Rattle.cli_call.proofs.Common.{EndsOver, Job, EndsOwnRun}
use Rattle.mic3_datapath.specs.Prelude.{IsReady as IsReady3}
use Rattle.cli_call.specs.CallEnds.{Done}
use Rattle.cli_call.specs.Prelude.{CallEnds, DoesAsked, EndsAs, EndsOnMachine, EndsRun, job_of, ClockedEnd}

pub call_ends : {words asks : Option Asked} {old new : LentView} {status : ℕ} → words ≡ asks → Over (EndsAs asks) old new status → Over (CallEnds words) old new status
call_ends same ends = record { names = ends.names; does = rw same (Done ends.does) }

-- what is asked of a machine is done on it
pub on_machine : (r : Request (Bor Text)) (p : Processor) {old new : LentView} {status : ℕ} → r.processor ≡ p →
    Over (EndsOnMachine p r.command (asked r)) old new status → DoesAsked (asked r) old new status
on_machine r p {old = old} {new = new} {status = status} is ends = record {
  names = ends.names;
  does = subst (λ (q : Processor). EndsOnMachine q r.command (asked r) old.seen new.seen status) (sym is) ends.does;
}

-- `run` by the microprogram that ships is a run, and so is one by a person's own
module _ {M S : Type 0} (state : M → S) (m : Meaning S) (IsReady : ℕ → List ℕ → ℕ → S → World → Type 0) (IsShipped : List ℕ → Type 0) (entry : ℕ) (timing : Timing)
    (job : Job Text) (old new : LentView) (status : ℕ) where
  abbrev RunsBy : Option Text → Type 0
  RunsBy own =
      MatchOption own (EndsOver job.map (ClockedEnd state m IsReady IsShipped entry timing job.bound) job.file old.seen new.seen status)
      (λ own. EndsOwnRun state m job old.seen new.seen status)

  pub ran_shipped : job.own ≡ None → Over (EndsOver job.map (ClockedEnd state m IsReady IsShipped entry timing job.bound) job.file) old new status →
      Over (EndsRun state m IsReady IsShipped entry timing job) old new status
  ran_shipped none ends = record { names = ends.names; does = subst RunsBy (sym none) ends.does }

  pub ran_own : (name : Text) → job.own ≡ Some name → Over (EndsOwnRun state m job) old new status →
      Over (EndsRun state m IsReady IsShipped entry timing job) old new status
  ran_own name own ends = record { names = ends.names; does = subst RunsBy (sym own) ends.does }

-- what is asked of Mic-3 is a run by the microprogram that ships
pub run_ends : (r : Request (Bor Text)) {old new : LentView} {status : ℕ} → HasLimits r → r.processor ≡ Mic3 →
    Over (EndsOver r.map (ClockedEnd pipeline_of mic3_meaning IsReady3 (HasShipped Mic2) 0x002 mic3_timing r.bound) r.file.now) old new status →
    DoesAsked (asked r) old new status
run_ends r {old = old} {new = new} {status = status} limits is ends =
    let alone = limits.mic3 is in
    let ran = ran_shipped pipeline_of mic3_meaning IsReady3 (HasShipped Mic2) 0x002 mic3_timing (job_of (asked r)) old new status (ap name_in alone.1) ends in
    on_machine r Mic3 is (record {
      names = ran.names;
      does = subst (λ (c : CommandName). EndsOnMachine Mic3 c (asked r) old.seen new.seen status) (sym alone.0) ran.does;
    })
