-- What every call over a source and a sink leaves of both, whatever it does with them.
use Rattle.std.specs.Prelude.{◌≡◌, ℕ, Bool, true, List, Option, Result, Err, IsSome}
use Rattle.mic_base.specs.Prelude.{KeepsFront}
use Rattle.console_port.specs.View.{BusView}
use Rattle.console_port.specs.Console.{HasFaultCause, StaysFlushed, StillTells}
use Rattle.console_port.specs.declared.fault.BusFault.{BusFault}
use Rattle.console_port.specs.declared.fault.BusFault.TheVariants.{WriteFault}

-- What the sink held stays in front, and what it holds stays known where it was. Unless it failed, it has passed on all if it had before.
pub record SinkGoesOn {K : Type 0} (held passed : K → Option (List ℕ)) (Fails : Type 0) (sink sink' : K) : Type 0 where
  pub keeps : KeepsFront (held sink) (held sink')
  pub tells : IsSome (held sink) → IsSome (held sink')
  pub flushed : (Fails → ⊥) → StaysFlushed (held sink) (passed sink) (held sink') (passed sink')

-- The end of input, once met, stays met, and the source is asked no more. What it has left stays known where it was.
pub record SourceGoesOn {S : Type 0} (left : S → Option (List ℕ)) (ended : Bool) (source : S) (ended' : Bool) (source' : S) : Type 0 where
  pub asked_no_more : ended ≡ true → (ended' ≡ true) × (source' ≡ source)
  pub tells_left : StillTells (left source) ended (left source') ended'

-- what a call over a bus leaves of its source and its sink
module _ {S K : Type 0} (left : S → Option (List ℕ)) (source_faults : S → ℕ) (held passed : K → Option (List ℕ)) (sink_faults : K → ℕ) where
  pub record StreamsGoOn {T : Type 0} (bus : BusView) (source : S) (sink : K) (bus' : BusView) (source' : S) (sink' : K)
      (result : Result T BusFault) : Type 0 where
    pub source_goes_on : SourceGoesOn left bus.console.ended source bus'.console.ended source'
    pub sink_goes_on : SinkGoesOn held passed (result ≡ Err WriteFault) sink sink'
    pub cause : HasFaultCause (source_faults source) (source_faults source') (sink_faults sink) (sink_faults sink') result
