-- A bus between a source and a sink shows a world; what an access leads to, and what stands after an Err.
use Rattle.std.specs.Prelude.{◌≡◌, ◌≢◌, ℕ, List, [], length, slice_get, Option, Some, None, Result, OnOk, OnErr, IfErr}
use Rattle.std.specs.Option.{option_map}
use Rattle.console_port.specs.View.{BusView}
use Rattle.console_port.specs.World.{World, Refusal, fault_of, read_value, after_read}
use Rattle.console_port.specs.Console.{Untaken, Given, IsLost, IsFault}
use Rattle.console_port.specs.declared.fault.BusFault.{BusFault}
use Rattle.console_port.specs.declared.fault.BusFault.TheVariants.{WriteFault}

pub record Shows (left held : Option (List ℕ)) (bus : BusView) (w : World) : Type 0 where
  pub words : w.words ≡ bus.words
  pub untaken : Untaken left bus.console.ended w.untaken
  pub given : Given held bus.console.kept w.given

-- Whatever may be left after a call, something may have been left before it from which the call leads the world there.
abbrev pub IsLed : Option (List ℕ) → Option (List ℕ) → BusView → Option (List ℕ) → Option (List ℕ) → BusView → (World → World → Type 0) → Type 0
IsLed left held bus left' held' bus' leads =
    (rest : List ℕ) → Untaken left' bus'.console.ended rest →
    (untaken : List ℕ) × Untaken left bus.console.ended untaken ×
    ((w : World) → Shows left held bus w → w.untaken ≡ untaken → (v : World) × leads w v × Shows left' held' bus' v × (v.untaken ≡ rest))

-- a read there that gives this value leads the world w to v
abbrev pub IsRead : ℕ → ℕ → ℕ → World → World → Type 0
IsRead stack_end at value w v = (value ≡ read_value stack_end w.words w.untaken at) × (v ≡ after_read stack_end w at)

-- After an Err no memory word is changed, and the same world is shown unless a write failed. After a fault nothing is kept.
pub record Stands (left held : Option (List ℕ)) (bus : BusView) (left' held' : Option (List ℕ)) (bus' : BusView) (e : BusFault) : Type 0 where
  pub words : bus'.words ≡ bus.words
  pub same : e ≢ WriteFault → (w : World) → Shows left held bus w → Shows left' held' bus' w
  pub untaken : left' ≡ left
  pub ended : bus'.console.ended ≡ bus.console.ended
  pub emptied : IsFault e → bus'.console.kept ≡ []
  pub lost : e ≡ WriteFault → IsLost held bus.console.kept held' bus'.console.kept

-- no word but the one there is changed, and no word is more or less
abbrev pub ChangesOnly : ℕ → List ℕ → List ℕ → Type 0
ChangesOnly at old new = (length new ≡ length old) × ((a : ℕ) → a ≢ at → slice_get new a ≡ slice_get old a)

-- the fault that a refused access returns
abbrev pub refused_by : Option Refusal → Option BusFault
refused_by refusal = option_map fault_of refusal

-- an Err is the fault of this refusal
abbrev pub FailsAsRefused : {T : Type 0} → Option Refusal → Result T BusFault → Type 0
FailsAsRefused refusal result = IfErr result (λ e. refused_by refusal ≡ Some e)

-- a call is done where nothing is refused; otherwise it returns the refusal, and leaves all as it was
pub record IsDoneUnless {A T : Type 0} (refusal : Option Refusal) (old after new : A) (result : Result T BusFault) : Type 0 where
  pub ok : OnOk result (new ≡ after)
  pub allowed : OnOk result (refusal ≡ None)
  pub err : FailsAsRefused refusal result
  pub stays : OnErr result (new ≡ old)
