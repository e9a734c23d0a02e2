-- What a machine promises of the store that ships for it, over every verified image that stands in the memory.
use Rattle.std.specs.Prelude.{ℕ, List}
use Rattle.ijvm_simulation.specs.Common.{World, Meaning, Timing, start_of, VerifiedView}
use Rattle.ijvm_simulation.specs.Interpretation.{Interpretation}
use Rattle.ijvm_simulation.specs.Law.{Law, Boots, OnDone, Grows, reset_moment}
use Rattle.ijvm_simulation.specs.Stands.{Origin, IsAt}
use Rattle.ijvm_simulation.specs.Verified.{Loads}

-- no step takes back what was given
abbrev pub KeepsGiven : {S : Type 0} → Meaning S → Type 0
KeepsGiven {S} m = (word : ℕ) (s : S) (w : World) → OnDone (λ v. Grows w.given v.given) (m.step word s w)

-- A machine: its meaning, when its next instruction is ready, its store that ships, where that begins, and what is spent.
module _ {S : Type 0} (m : Meaning S) (IsReady : ℕ → List ℕ → ℕ → S → World → Type 0) (IsShipped : List ℕ → Type 0) (entry : ℕ) (timing : Timing) where
  -- each instruction takes what `Law` has of it
  abbrev pub KeepsLaw : Type 0
  KeepsLaw = (store : List ℕ) (o : Origin) (v : VerifiedView) → IsShipped store → Loads v o → Law m store (IsAt m IsReady entry o) o.given timing v o

  -- a reset comes to the first boundary
  abbrev pub BootsToMain : Type 0
  BootsToMain =
      (store : List ℕ) (o : Origin) (v : VerifiedView) (input : List ℕ) → IsShipped store → Loads v o →
      Boots m store (IsAt m IsReady entry o) o.given timing (reset_moment m entry v.main_locals o input) (start_of v.main_locals input)

  -- all that it promises
  pub record Promises : Type 0 where
    pub law : KeepsLaw
    pub boots : BootsToMain
    pub grows : KeepsGiven m

-- a machine keeps these promises over its store: together they interpret IJVM
abbrev pub Interprets : {M S : Type 0} → Interpretation M S → Type 0
Interprets i = Promises i.meaning i.IsReady i.IsShipped i.entry i.timing
