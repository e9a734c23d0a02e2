-- The ways in which a command ends that got nothing from its file, or something, each from what was done.
use Rattle.std.proofs.Common.{◌≡◌, ℕ, List, Option, Some, None, refl}
use Rattle.cli_outside.specs.Status as exits
use Rattle.cli_outside.specs.Messages.{out_of_memory}
use Rattle.cli_outside.specs.Outside.{LentView, Over, OutsideView, TellsOnErr}
use Rattle.cli_outside.specs.Work.{Did, Ends, IsHad, IsNotHad, IsFileRead, IsRefusal, IsUnread, NotHad, Refused, Short, TellsRefusal, Unread, refusal_by}
use Rattle.cli_outside.specs.declared.refusal.Refusal.{Refusal}
use Rattle.cli_outside.specs.declared.refusal.Refusal.TheVariants as refusals

-- each reason that a file of these bytes is refused for holds of them
pub by_reason : (Refuses : List ℕ → List ℕ → Type 0) (bytes : List ℕ) (reason : Option (List ℕ)) →
    ((text : List ℕ) → reason ≡ Some text → Refuses bytes text) → IsRefusal Refuses bytes (refusal_by reason)
by_reason Refuses bytes None refuses = tt
by_reason Refuses bytes (Some text) refuses = refuses text refl

module _ {Refuses : List ℕ → List ℕ → Type 0} {file : List ℕ} where
  told : {bytes : List ℕ} (refusal : Refusal) {old new : OutsideView} {status : ℕ} → IsFileRead file bytes old → IsRefusal Refuses bytes refusal →
      TellsRefusal file refusal old new status → IsNotHad Refuses file old new status
  told {bytes = bytes} (refusals.Refused reason) read refuses tells = Refused bytes reason read refuses tells
  told refusals.OutOfMemory read refuses tells = Short tells

  -- a file of these bytes is refused, and the reason is printed
  pub refused : {bytes : List ℕ} (refusal : Refusal) {old new : LentView} {status : ℕ} → IsFileRead file bytes old.seen → IsRefusal Refuses bytes refusal →
      Over (TellsRefusal file refusal) old new status → Over (IsNotHad Refuses file) old new status
  refused refusal read refuses over = record { names = over.names; does = told refusal read refuses over.does }

  pub unread : {old new : LentView} {status : ℕ} → Over (IsUnread file) old new status → Over (IsNotHad Refuses file) old new status
  unread over = record { names = over.names; does = Unread over.does }

  pub short : {old new : LentView} {status : ℕ} → Over (TellsOnErr out_of_memory exits.memory) old new status → Over (IsNotHad Refuses file) old new status
  short over = record { names = over.names; does = Short over.does }

  module _ {V : Type 0} {Is : List ℕ → V → Type 0} {Does : V → OutsideView → OutsideView → ℕ → Type 0} where
    pub not_had : {old new : LentView} {status : ℕ} → Over (IsNotHad Refuses file) old new status → Over (Ends Refuses Is Does file) old new status
    not_had over = record { names = over.names; does = NotHad over.does }

    pub did : (value : V) {old new : LentView} {status : ℕ} → IsHad Is file old.seen value → Over (Does value) old new status →
        Over (Ends Refuses Is Does file) old new status
    did value had over = record { names = over.names; does = Did value had over.does }
