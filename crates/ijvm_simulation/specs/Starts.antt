-- How a run ends from its reset over a verified image, with the store that ships, no matter what clocks it.
use Rattle.std.specs.Prelude.{◌≡◌, ℕ, List, Option, Some, false}
use Rattle.ijvm_simulation.specs.Common.{Untaken, End, Meaning, BoardView, IsLedTo, Leads, ShowsRun, Timing, Finish, first_point, EndsBy, VerifiedView}
use Rattle.ijvm_simulation.specs.Reset.{IsAtReset}
use Rattle.ijvm_simulation.specs.Simulates.{board_end}
use Rattle.ijvm_simulation.specs.Verified.{program}

-- the definition's run ends so, over the bytes that a source has left where they are known
pub record EndsSo (timing : Timing) (v : VerifiedView) (bound : ℕ) (left : Option (List ℕ)) (end : End) : Type 0 where
  pub input : List ℕ
  pub told : Untaken left false input
  pub finish : Finish
  pub finishes : EndsBy (program timing v) bound (first_point (program timing v) v.main_locals input) finish
  pub is : end ≡ board_end finish.end

module _ {M S : Type 0} (state : M → S) (m : Meaning S) (IsShipped : List ℕ → Type 0) (entry : ℕ) (timing : Timing) where
  -- Where turns lead a board from its reset over a verified image, with the store that ships, to an end, it has ended as the definition's run.
  abbrev pub EndsAsDefined : Type 0
  EndsAsDefined =
      (v : VerifiedView) (bound : ℕ) (left held left' held' : Option (List ℕ)) (first last : BoardView M) →
      IsShipped first.store.words → IsAtReset state m entry v first →
      IsLedTo state left held first left' last
      (λ r rest. (n : ℕ) × Leads state m first.store.words (Some bound) last first.buses rest n r (ShowsRun state left' held' last)) →
      (end : End) → last.end ≡ Some end → EndsSo timing v bound left end
