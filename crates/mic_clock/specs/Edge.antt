-- What a clock edge comes to between a source and a sink, by the step of the word that was set up.
use Rattle.std.specs.Prelude.{◌≡◌, ◌≢◌, ◌⊎◌, ◌<◌, ℕ, ⊤, Bool, true, false, List, [], length, Option, Some, Result, Ok, Err, OnOk, OnErr, IfErr}
use Rattle.mic_clock.specs.Common.{BusView, World, Shows, Stands, IsLed, ChangesOnly, IsFault, most_kept, BusFault, ReadFault, WriteFault}
use Rattle.mic_clock.specs.Meaning.{Meaning, Done, refusal_in, ReadsConsole, UsesConsole}

module _ {State : Type 0} (m : Meaning State) (word : ℕ) (s : State) (left held : Option (List ℕ)) (bus : BusView) where
  -- an edge leads the shown world where the step does
  abbrev pub IsStep : State → Option (List ℕ) → Option (List ℕ) → BusView → Type 0
  IsStep s' left' held' bus' = IsLed left held bus left' held' bus' (λ w v. m.step word s w ≡ Done s' v)

  -- where the step is refused, that refusal is the result
  abbrev pub AnswersRefusal : {T : Type 0} → Result T BusFault → Type 0
  AnswersRefusal result = (w : World) (e : BusFault) → Shows left held bus w → refusal_in (m.step word s w) ≡ Some e → result ≡ Err e

  -- why an edge returns e: the step is refused with it; or it is done, and the source or the sink failed where it uses the console
  pub record IsErrOfStep (e : BusFault) : Type 0 where
    pub refused : (IsFault e → ⊥) → (w : World) → Shows left held bus w → refusal_in (m.step word s w) ≡ Some e
    pub reads : e ≡ ReadFault → (w : World) → Shows left held bus w → ReadsConsole m word s w
    pub uses : e ≡ WriteFault → (w : World) → Shows left held bus w → UsesConsole m word s w

  -- What an edge does. Done, it led where the step does, and changed no memory word but the one at MAR as it is after it.
  -- An Err is the step's refusal or a failing source or sink, and leaves the state.
  pub record IsEdge {T : Type 0} (s' : State) (left' held' : Option (List ℕ)) (bus' : BusView) (result : Result T BusFault) : Type 0 where
    pub ok : OnOk result (IsStep s' left' held' bus')
    pub others : OnOk result (ChangesOnly (m.registers s').mar bus.words bus'.words)
    pub refusal : AnswersRefusal result
    pub err : IfErr result IsErrOfStep
    pub state : OnErr result (s' ≡ s)
    pub stands : IfErr result (Stands left held bus left' held' bus')

  -- While the console has room for one byte more, the sink is left as it is, unless bytes wait and the step reads the console.
  abbrev pub LetsBytesWait : {K : Type 0} → K → K → Type 0
  LetsBytesWait sink sink' =
      length bus.console.kept < most_kept → (sink' ≡ sink) ⊎ ((bus.console.kept ≢ []) × ((w : World) → Shows left held bus w → ReadsConsole m word s w))

module _ {State S K : Type 0} (m : Meaning State) (left : S → Option (List ℕ)) (held : K → Option (List ℕ)) where
  -- an edge between a source and a sink, which lets the console's bytes wait
  pub record IsEdgeOver {T : Type 0} (word : ℕ) (s : State) (bus : BusView) (source : S) (sink : K)
      (s' : State) (bus' : BusView) (source' : S) (sink' : K) (result : Result T BusFault) : Type 0 where
    pub edge : IsEdge m word s (left source) (held sink) bus s' (left source') (held sink') bus' result
    pub waits : LetsBytesWait m word s (left source) (held sink) bus sink sink'

-- an edge that is done, and is the same between any source and any sink, which both stay
abbrev pub IsEdgeInside : {State : Type 0} → Meaning State → ℕ → State → BusView → State → BusView → Type 0
IsEdgeInside m word s bus s' bus' =
    (left held : Option (List ℕ)) → IsEdge m word s left held bus {T = ⊤} s' left held bus' (Ok tt)

-- such an edge was done, or nothing was
pub record IsTried {State : Type 0} (m : Meaning State) (word : ℕ) (s : State) (bus : BusView) (s' : State) (bus' : BusView) (done : Bool) : Type 0 where
  pub edge : done ≡ true → IsEdgeInside m word s bus s' bus'
  pub ended : bus'.console.ended ≡ bus.console.ended
  pub none : done ≡ false → (s' ≡ s) × (bus' ≡ bus)
