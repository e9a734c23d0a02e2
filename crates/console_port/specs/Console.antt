-- A console between a source and a sink: the world's bytes that the three show together, and what a fault leaves.
use Rattle.std.specs.Prelude.{◌≡◌, ◌≢◌, ℕ, ◌≤◌, Bool, true, false, List, [], ◌∷◌, ◌++◌, take, Option, Some, IfSome, Result, Err, IsErrOf}
use Rattle.std.specs.Option.{option_map}
use Rattle.mic_base.specs.Prelude.{Rose, IsFlushed}
use Rattle.console_port.specs.View.{ConsoleView}
use Rattle.console_port.specs.declared.fault.BusFault.{BusFault}
use Rattle.console_port.specs.declared.fault.BusFault.TheVariants.{ReadFault, WriteFault, StackLimit, OutOfMap}

-- the untaken bytes may be these: none after the end was met, and before that what the source has left, where that is known
abbrev pub Untaken : Option (List ℕ) → Bool → List ℕ → Type 0
Untaken left true untaken = untaken ≡ []
Untaken left false untaken = IfSome left (λ l. untaken ≡ l)

-- the most bytes that a console keeps
abbrev pub most_kept : ℕ
most_kept = 4096

-- A source that had these bytes left was asked for a byte: it gave the first, or the end was met where there was none.
abbrev pub Asks : List ℕ → Option (List ℕ) → Bool → Type 0
Asks [] left ended = (left ≡ Some []) × (ended ≡ true)
Asks (byte ∷ rest) left ended = (left ≡ Some rest) × (ended ≡ false)

-- what the source has left is known: nothing once its end was met
pub record TellsLeft (left : Option (List ℕ)) (ended : Bool) : Type 0 where
  pub bytes : List ℕ
  pub tells : left ≡ Some bytes
  pub none_left : ended ≡ true → bytes ≡ []

-- what was known before is known after
abbrev pub StillTells : Option (List ℕ) → Bool → Option (List ℕ) → Bool → Type 0
StillTells left ended left' ended' = TellsLeft left ended → TellsLeft left' ended'

-- the bytes given may be these: what the sink holds, where that is known, followed by the kept bytes
abbrev pub Given : Option (List ℕ) → List ℕ → List ℕ → Type 0
Given held kept given = IfSome held (λ h. given ≡ h ++ kept)

-- these bytes are given after those that were
abbrev pub Gives : List ℕ → Option (List ℕ) → List ℕ → Option (List ℕ) → List ℕ → Type 0
Gives bytes held kept held' kept' = (given : List ℕ) → Given held kept given → Given held' kept' (given ++ bytes)

-- the sink has passed on all that it holds, if it had before
abbrev pub StaysFlushed : Option (List ℕ) → Option (List ℕ) → Option (List ℕ) → Option (List ℕ) → Type 0
StaysFlushed held passed held' passed' = IsFlushed held passed → IsFlushed held' passed'

-- after a write that failed: nothing is kept, and the sink has taken a prefix of what was
pub record IsLost (held : Option (List ℕ)) (kept : List ℕ) (held' : Option (List ℕ)) (kept' : List ℕ) : Type 0 where
  pub emptied : kept' ≡ []
  pub prefix : (n : ℕ) × (held' ≡ option_map (λ h. h ++ take n kept) held)

-- The last bytes that were given waited, and were lost in part: the sink has taken a front of them.
abbrev pub LosesLast : Option (List ℕ) → List ℕ → Type 0
LosesLast held given = IfSome held (λ h. (before kept : List ℕ) × (n : ℕ) × (kept ≢ []) × (given ≡ before ++ kept) × (h ≡ before ++ take n kept))

-- a fault of the source or the sink
abbrev pub IsFault : BusFault → Type 0
IsFault ReadFault = Unit {0}
IsFault WriteFault = Unit {0}
IsFault (StackLimit at) = ⊥
IsFault (OutOfMap at) = ⊥

-- a fault comes only where its object's count rose, and each count stays otherwise
pub record HasFaultCause {T : Type 0} (source source' sink sink' : ℕ) (result : Result T BusFault) : Type 0 where
  pub source_later : source ≤ source'
  pub sink_later : sink ≤ sink'
  pub read : IsErrOf result ReadFault → Rose source source'
  pub write : IsErrOf result WriteFault → Rose sink sink'
  pub source_same : result ≢ Err ReadFault → source' ≡ source
  pub sink_same : result ≢ Err WriteFault → sink' ≡ sink

-- after a take that failed: what was left is left, nothing is kept, and a write that failed has lost what was kept
pub record TakeFails (left held : Option (List ℕ)) (console : ConsoleView)
    (left' held' : Option (List ℕ)) (console' : ConsoleView) (e : BusFault) : Type 0 where
  pub fault : IsFault e
  pub untaken : left' ≡ left
  pub ended : console'.ended ≡ console.ended
  pub emptied : console'.kept ≡ []
  pub lost : e ≡ WriteFault → IsLost held console.kept held' console'.kept
