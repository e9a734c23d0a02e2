-- An access of a machine to its bus: what the map decides, when it is refused, what an Err leaves, and what becomes of the source and the sink.
use Rattle.std.specs.Prelude.{◌≡◌, ◌⊎◌, ℕ, Bool, List, Option, Some, None, Result, Err, OnOk, IfErr, IsErrOf, IsTrue}
use Rattle.console_port.specs.View.{BusView}
use Rattle.console_port.specs.World.{World, Refusal, fault_of, console_at}
use Rattle.console_port.specs.Console.{Asks, IsFault, HasFaultCause}
use Rattle.console_port.specs.Bus.{Shows, Stands}
use Rattle.console_port.specs.Streams.{SinkGoesOn, SourceGoesOn}
use Rattle.console_port.specs.declared.fault.BusFault.{BusFault}
use Rattle.console_port.specs.declared.fault.BusFault.TheVariants.{ReadFault, WriteFault}

-- The map decides first. What it refuses returns that refusal, and `Leaves` holds; what it allows can fail only at the console.
pub record IsByMap {T : Type 0} (refusal : Option Refusal) (at : ℕ) (Leaves : Type 0) (IsItsFault : BusFault → Type 0)
    (result : Result T BusFault) : Type 0 where
  pub refused : (r : Refusal) → refusal ≡ Some r → (result ≡ Err (fault_of r)) × Leaves
  pub allowed : OnOk result (refusal ≡ None)
  pub fault : IfErr result (λ e. refusal ≡ None → (at ≡ console_at) × IsItsFault e)

module _ {S K : Type 0} (left : S → Option (List ℕ)) (source_faults : S → ℕ) (held passed : K → Option (List ℕ)) (sink_faults : K → ℕ) where
  -- `Refuses w e` says that the access is refused with e in the world w.
  -- `may_read` and `may_use` say whether it may take from the console, and whether it may take or give.
  pub record IsAccess {T : Type 0} (Refuses : World → BusFault → Type 0) (may_read may_use : Bool)
      (source source' : S) (sink sink' : K) (bus bus' : BusView) (result : Result T BusFault) : Type 0 where
    -- a refused access returns its refusal, and an Err that is no fault is a refusal
    pub refused : (w : World) (e : BusFault) → Shows (left source) (held sink) bus w → Refuses w e → result ≡ Err e
    pub only_refused : IfErr result (λ e. (IsFault e → ⊥) → (w : World) → Shows (left source) (held sink) bus w → Refuses w e)
    pub stands : IfErr result (Stands (left source) (held sink) bus (left source') (held sink') bus')
    pub reads : IsErrOf result ReadFault → IsTrue may_read
    pub uses : IsErrOf result WriteFault → IsTrue may_use
    pub cause : HasFaultCause (source_faults source) (source_faults source') (sink_faults sink) (sink_faults sink') result
    -- the source is asked at most once, and never after its end was met
    pub asked : (bytes : List ℕ) → left source ≡ Some bytes →
        OnOk result ((source' ≡ source) × (bus'.console.ended ≡ bus.console.ended) ⊎ Asks bytes (left source') bus'.console.ended)
    pub source_goes_on : SourceGoesOn left bus.console.ended source bus'.console.ended source'
    pub sink_goes_on : SinkGoesOn held passed (result ≡ Err WriteFault) sink sink'
