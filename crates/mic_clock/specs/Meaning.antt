-- What a clocked machine means: its microstep over the world, and what it shows of its state.
use Rattle.std.specs.Prelude.{◌≡◌, ◌⊎◌, ℕ, Bool, List, [], ◌∷◌, ◌++◌, drop, Option, Some, None}
use Rattle.mic_clock.specs.Common.{World, Refusal, fault_of, BusFault, Machine}
use Rattle.mic_clock.specs.declared.buses.Drive.{Drive}
use Rattle.mic_clock.specs.declared.buses.Computed.{Computed}
use Rattle.mic_clock.specs.declared.registers.Registers.{Registers}
use Rattle.mic_clock.specs.declared.registers.Start.{Start}

-- a microstep is done, or refused with all as it was
pub data Outcome (State : Type 0) : Type 0 where
  Done : State → World → Outcome State
  Refused : Refusal → Outcome State

module _ {State : Type 0} where
  -- a step's outcome, where it is not refused
  abbrev pub unless_refused : Option Refusal → Outcome State → Outcome State
  unless_refused None outcome = outcome
  unless_refused (Some why) outcome = Refused why

  -- the fault that a refused step returns
  abbrev pub refusal_in : Outcome State → Option BusFault
  refusal_in (Done s w) = None
  refusal_in (Refused r) = Some (fault_of r)

  -- what a step that is done leaves of the input
  abbrev pub untaken_by : Outcome State → Option (List ℕ)
  untaken_by (Done s w) = Some w.untaken
  untaken_by (Refused r) = None

  -- all output after a step that is done
  abbrev pub given_by : Outcome State → Option (List ℕ)
  given_by (Done s w) = Some w.given
  given_by (Refused r) = None

pub record Meaning (State : Type 0) : Type 0 where
  pub machine : Machine
  pub initial : Start → State
  -- the step of a microinstruction
  pub step : ℕ → State → World → Outcome State
  -- the values on the buses during that step
  pub drives : ℕ → State → Drive
  pub computes : ℕ → State → Computed
  pub registers : State → Registers
  -- whether an instruction boundary is here, and the address of the instruction there
  pub is_boundary : State → Bool
  pub address : State → ℕ

module _ {State : Type 0} (m : Meaning State) (word : ℕ) (s : State) (w : World) where
  -- A step reads the console where it is done and takes the first byte of whatever input is left.
  pub record ReadsConsole : Type 0 where
    pub takes : (input : List ℕ) → untaken_by (m.step word s (record w { untaken = input })) ≡ Some (drop 1 input)

  -- A step writes to the console where it is done and gives one byte more.
  pub record WritesConsole : Type 0 where
    pub byte : ℕ
    pub gives : given_by (m.step word s w) ≡ Some (w.given ++ byte ∷ [])

  abbrev pub UsesConsole : Type 0
  UsesConsole = ReadsConsole ⊎ WritesConsole
