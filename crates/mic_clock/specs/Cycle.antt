-- How far a cycle has come: a word with its control lines, and what is on the buses for it.
use Rattle.std.specs.Prelude.{◌≡◌, ℕ, IsTrue}
use Rattle.mic_clock.specs.Common.{Machine, AreLines, fields_of, is_canonical, Lines}
use Rattle.mic_clock.specs.declared.buses.Computed.{Computed}
use Rattle.mic_clock.specs.declared.buses.Drive.{Drive}
use Rattle.mic_clock.specs.declared.phase.Phase.{Phase}
use Rattle.mic_clock.specs.declared.phase.Phase.TheVariants as phases
use Rattle.mic_clock.specs.Meaning.{Meaning}

-- a canonical word of a machine, with its control lines
pub record IsDecoded (machine : Machine) (word : ℕ) (lines : Lines) : Type 0 where
  pub canonical : IsTrue (is_canonical machine word)
  pub decoded : AreLines machine (fields_of machine word) lines

module _ {State : Type 0} (m : Meaning State) where
  -- what a cycle has before its edge: its word, and what that has driven and computed in this state
  pub record IsAtEdge (word : ℕ) (lines : Lines) (s : State) (drive : Drive) (computed : Computed) : Type 0 where
    pub decoded : IsDecoded m.machine word lines
    pub drives : drive ≡ m.drives word s
    pub computes : computed ≡ m.computes word s

  -- what a cycle has in each of its phases
  pub record IsUnderWay (s : State) (phase : Phase) (word : ℕ) (lines : Lines) (drive : Drive) (computed : Computed) : Type 0 where
    pub set_up : phase ≡ phases.SetUp → IsDecoded m.machine word lines
    pub driven : phase ≡ phases.Driven → IsDecoded m.machine word lines × (drive ≡ m.drives word s)
    pub at_edge : phase ≡ phases.AtEdge → IsAtEdge word lines s drive computed
