-- What a call does, by what its words ask for.
use Rattle.cli_check.proofs.Common.{◌≡◌, ℕ, Option, Some, subst, sym, LentView, Over, MachineName, CheckEnds, JudgesFor, Asked}

module _ {old new : LentView} {status : ℕ} where
  pub call_ends : {asks is : Option Asked} → asks ≡ is → Over (CheckEnds is) old new status → Over (CheckEnds asks) old new status
  call_ends e h = subst (λ (a : Option Asked). Over (CheckEnds a) old new status) (sym e) h

  -- the words ask for this file, and for a microprogram of this machine
  pub ends_for : (asks : Option Asked) (a : Asked) (machine : MachineName) → Some a ≡ asks → a.machine ≡ machine →
      Over (JudgesFor machine a.file) old new status → Over (CheckEnds asks) old new status
  ends_for asks a machine e is h =
      call_ends (sym e) (subst (λ (m : MachineName). Over (JudgesFor m a.file) old new status) (sym is) h)
