-- A run between two boards with the cycles that it shows, and what a watcher makes of them.
use Rattle.std.specs.Prelude.{◌≡◌, ◌≤◌, ◌+◌, ◌^◌, ℕ, Bool, is_some, List, [], ◌∷◌, ◌++◌, Option, Some, None, Result, Ok, Err}
use Rattle.mic_base.specs.Prelude.{Puts}
use Rattle.mic_clock.specs.declared.end.End.{End}
use Rattle.mic_clock.specs.declared.end.End.TheVariants as ends
use Rattle.mic_clock.specs.Prelude.{Meaning, MicroRun, last_cycles, BoardView, ShowsRun, IsLedTo, IsCutAt, IsCutByRead, Leads, NoFault}
use Rattle.mic_watched.specs.declared.cycle.Cycle.{Cycle}
use Rattle.mic_watched.specs.Cycles.{cycles_of}

-- a watcher that keeps this ignores the cycles that reach a boundary, or those that do not
abbrev pub Ignores : {Kept : Type 0} → (Kept → Cycle → Kept) → (Kept → Cycle → List ℕ → Type 0) → Kept → Bool → Type 0
Ignores keeps Prints k boundary = (cycle : Cycle) → is_some cycle.boundary ≡ boundary → (keeps k cycle ≡ k) × Prints k cycle []

-- one of these texts is put
abbrev pub PutsSome : {E : Type 0} → (List ℕ → Type 0) → Option (List ℕ) → Result Unit E → Option (List ℕ) → Type 0
PutsSome Prints old result new = (text : List ℕ) × Prints text × Puts old text result new

-- A board that can be run: it has not ended, and clocked no cycle too many.
pub record CanRun {M : Type 0} (board : BoardView M) : Type 0 where
  pub not_ended : board.end ≡ None
  pub cycles : board.counts.cycles ≤ 2 ^ 62 + 1024
  pub ordered : last_cycles board.counts.boundary ≤ board.counts.cycles
  pub near : board.counts.cycles ≤ last_cycles board.counts.boundary + 1024

module _ {M State : Type 0} (state : M → State) (m : Meaning State) (bound : ℕ)
    (left held : Option (List ℕ)) (board : BoardView M) (left' held' : Option (List ℕ)) (board' : BoardView M) where
  -- turns lead to the second board, and they show these cycles
  abbrev pub LeadsOver : List Cycle → (MicroRun State → Type 0) → Type 0
  LeadsOver cs IsHere =
      IsLedTo state left held board left' board'
      (λ r rest. (n : ℕ) × (cycles_of m board.store.words (Some bound) n r ≡ cs)
      × Leads state m board.store.words (Some bound) board' board.buses rest n r IsHere)

  -- The run to the second board shows these cycles: it stands there, or a fault cuts it there.
  pub record ShowsCycles (cs : List Cycle) (end : Option End) : Type 0 where
    pub run : NoFault None end → LeadsOver cs (ShowsRun state left' held' board')
    pub read : end ≡ Some ends.ReadFault → LeadsOver cs (IsCutByRead state m board.store.words (Some bound) left' held' board')
    pub write : end ≡ Some ends.WriteFault → LeadsOver cs (IsCutAt state m board.store.words bound left' held' board')

module _ {Kept : Type 0} (keeps : Kept → Cycle → Kept) (Prints : Kept → Cycle → List ℕ → Type 0) where
  -- what a watcher keeps after these cycles
  abbrev pub kept_of : Kept → List Cycle → Kept
  kept_of k [] = k
  kept_of k (c ∷ cs) = kept_of (keeps k c) cs

  -- what it prints of them: the texts of the cycles one after the other
  abbrev pub PrintsOf : Kept → List Cycle → List ℕ → Type 0
  PrintsOf k [] text = text ≡ []
  PrintsOf k (c ∷ cs) text = (first rest : List ℕ) × Prints k c first × PrintsOf (keeps k c) cs rest × (text ≡ first ++ rest)

  -- A watcher saw these cycles. Where `err` failed, it has a front of their texts.
  pub record Saw {E : Type 0} (k k' : Kept) (err err' : Option (List ℕ)) (cs : List Cycle) (result : Result Unit E) : Type 0 where
    pub kept : k' ≡ kept_of k cs
    pub text : List ℕ
    pub says : PrintsOf k cs text
    pub said : Puts err text result err'

module _ {M State Kept : Type 0} (state : M → State) (m : Meaning State) (bound : ℕ) (keeps : Kept → Cycle → Kept)
    (Prints : Kept → Cycle → List ℕ → Type 0) where
  -- The run of a board that comes to this end, or has none yet where `err` failed: it shows some cycles, and a watcher saw them.
  pub record IsWatched {E : Type 0} (left held : Option (List ℕ)) (board : BoardView M) (left' held' : Option (List ℕ)) (board' : BoardView M)
      (k k' : Kept) (err err' : Option (List ℕ)) (end : Option End) (result : Result Unit E) : Type 0 where
    pub cycles : List Cycle
    pub run : ShowsCycles state m bound left held board left' held' board' cycles end
    pub saw : Saw keeps Prints k k' err err' cycles result

-- the end of a run, where it came to one
abbrev pub end_in : {E : Type 0} → Result End E → Option End
end_in (Ok e) = Some e
end_in (Err failed) = None

-- whether it did
abbrev pub done : {T E : Type 0} → Result T E → Result Unit E
done (Ok x) = Ok tt
done (Err e) = Err e
