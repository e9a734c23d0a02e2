-- How a call moves a rewind and its cursor, between what its input has left and what `out` holds.
use Rattle.std.specs.Prelude.{◌≡◌, ◌≢◌, ◌≤◌, ◌⊎◌, ◌+◌, ◌^◌, ℕ, List, [], Bool, nat_le, Option, Some, Result}
use Rattle.cli_rewind.specs.Common.{StaysFlushed, Rose, plain_left, IsFlushed, KeepsFront, PlainSource, End, Meaning, RewindView, Got, GotInPart, SinkState}
use Rattle.cli_rewind.specs.Common.{sink_of, IsFrontOf, Command, CommandError}
use Rattle.mic_clock.specs.declared.end.End.TheVariants as ends
use Rattle.cli_rewind.specs.declared.table.Verb.{Verb}
use Rattle.cli_rewind.specs.declared.table.Verb.TheVariants as verbs
use Rattle.cli_rewind.specs.Stand.{Follows, GoesForward, IsCutForward, IsCutIn, Obeys, Stand, StandsAt, back, kept, run_at}

pub record Scene (M : Type 0) : Type 0 where
  pub rewind : RewindView M
  pub input : List ℕ
  pub out : SinkState

abbrev pub scene : {M : Type 0} → RewindView M → List ℕ → SinkState → Scene M
scene rewind input out = record { rewind = rewind; input = input; out = out }

-- what a session goes by stays; the board clocked at most this many cycles, and came to no fault of `out`
pub record IsMoved {M : Type 0} (most : ℕ) (old new : RewindView M) : Type 0 where
  pub store : new.board.store ≡ old.board.store
  pub depth : new.history.depth ≡ old.history.depth
  pub cycles : new.board.counts.cycles ≤ old.board.counts.cycles + most
  pub well : new.board.end ≢ Some ends.WriteFault

module _ {M State : Type 0} (state : M → State) (m : Meaning State) where
  abbrev pub IsShown : Scene M → Stand State → Type 0
  IsShown c s = StandsAt state m (Some c.input) c.out.held c.rewind s

  -- `out` did not fail. Each stand that was shown is followed by one that is shown now.
  pub record Went (most : ℕ) (old new : Scene M) (Follows : Stand State → Stand State → Type 0) : Type 0 where
    pub leads : (s : Stand State) → IsShown old s → (s' : Stand State) × Follows s s' × IsShown new s'
    pub moved : IsMoved most old.rewind new.rewind
    pub flushed : StaysFlushed old.out.held old.out.passed new.out.held new.out.passed
    pub faults : new.out.faults ≡ old.out.faults
    pub keeps : KeepsFront old.out.held new.out.held

  -- `out` failed. Of each stand that was shown this holds, by what `out` holds now.
  pub record WasCut (old new : Scene M) (Cuts : Stand State → Option (List ℕ) → Type 0) : Type 0 where
    pub cuts : (s : Stand State) → IsShown old s → Cuts s new.out.held
    pub keeps : KeepsFront old.out.held new.out.held
    pub rose : Rose old.out.faults new.out.faults

  -- each stand that was shown is followed by the one this many cycles back, whatever the input has left and `out` holds
  abbrev pub GoesBack : ℕ → RewindView M → RewindView M → Bool → Type 0
  GoesBack times old new all =
      (left held : Option (List ℕ)) (s : Stand State) → StandsAt state m left held old s →
      StandsAt state m left held new (back old.history.depth times s) × (all ≡ nat_le times (kept old.history.depth s))

  -- the line `back` is obeyed, and prints this text
  abbrev pub ObeysBack : ℕ → RewindView M → List ℕ → RewindView M → Type 0
  ObeysBack times old text new =
      (left held : Option (List ℕ)) (s : Stand State) → StandsAt state m left held old s →
      (s' : Stand State) × Obeys m old.board.store.words old.history.depth verbs.Back times s text s' × StandsAt state m left held new s'

-- ---- a call between the program's input and `out`

module _ {M State K : Type 0} (state : M → State) (m : Meaning State) (held passed : K → Option (List ℕ)) (faults : K → ℕ) where
  abbrev pub scene_at : RewindView M → PlainSource → K → Scene M
  scene_at rewind input out = scene rewind (plain_left input) (sink_of held passed faults out)

  module _ (n : ℕ) (old : RewindView M) (input : PlainSource) (out : K) (new : RewindView M) (input' : PlainSource) (out' : K) where
    -- the session went forward by n cycles, or to this end
    abbrev pub WentForward : Option End → Type 0
    WentForward end = Went state m n (scene_at old input out) (scene_at new input' out') (GoesForward m old.board.store.words n end)

    abbrev pub WasCutForward : Type 0
    WasCutForward = WasCut state m (scene_at old input out) (scene_at new input' out') (IsCutForward m old.board.store.words n)

  module _ (read : Result (Option (Command Verb)) CommandError)
      (old : RewindView M) (input : PlainSource) (out : K) (new : RewindView M) (input' : PlainSource) (out' : K) where
    -- the session did what was read of a line, and returned this text
    abbrev pub WentBy : List ℕ → Type 0
    WentBy text =
        Went state m (2 ^ 32) (scene_at old input out) (scene_at new input' out') (λ s s'. Follows m old.board.store.words old.history.depth read s text s')

    abbrev pub WasCutBy : Type 0
    WasCutBy = WasCut state m (scene_at old input out) (scene_at new input' out') (IsCutIn m old.board.store.words read)

-- ---- a text is put to `err`, and both sinks pass on what they have

module _ {M State : Type 0} (state : M → State) (m : Meaning State) where
  -- the console's bytes were put to `out`, and nothing waits
  pub record IsPassedOn (old new : RewindView M) (out out' : SinkState) : Type 0 where
    pub shows : (left : Option (List ℕ)) (s : Stand State) → StandsAt state m left out.held old s →
        StandsAt state m left out'.held new s
    pub history : new.history ≡ old.history
    pub board : new.board ≡ record old.board { bus = new.board.bus }
    pub kept : new.board.bus.console.kept ≡ []
    pub flushed : StaysFlushed out.held out.passed out'.held out'.passed
    pub faults : out'.faults ≡ out.faults
    pub keeps : KeepsFront out.held out'.held

  -- `out` holds a front of what was given, and what it held before
  pub record IsFront (old : RewindView M) (out out' : SinkState) : Type 0 where
    pub front : (left : Option (List ℕ)) (s : Stand State) → StandsAt state m left out.held old s →
        IsFrontOf out'.held (run_at m old.board.store.words s.start s.clocked).world.given
    pub keeps : KeepsFront out.held out'.held

  -- the text was put whole
  pub record IsTold (text : List ℕ) (old new : RewindView M) (out out' err err' : SinkState) : Type 0 where
    pub passed : IsPassedOn old new out out'
    pub got : Got err.held text err'.held
    pub flushed : IsFlushed err'.held err'.passed
    pub faults : err'.faults ≡ err.faults

  -- `out` or `err` failed
  pub record IsToldInPart (text : List ℕ) (old : RewindView M) (out out' err err' : SinkState) : Type 0 where
    pub out_front : IsFront old out out'
    pub got : GotInPart err.held text err'.held
    pub keeps : KeepsFront err.held err'.held
    pub rose : Rose out.faults out'.faults ⊎ Rose err.faults err'.faults

-- these relations for a sink, by what it shows of itself

module _ {M State K : Type 0} (state : M → State) (m : Meaning State) (held passed : K → Option (List ℕ)) (faults : K → ℕ) where
  abbrev pub PassesOn : RewindView M → K → RewindView M → K → Type 0
  PassesOn old out new out' = IsPassedOn state m old new (sink_of held passed faults out) (sink_of held passed faults out')

  abbrev pub LeavesFront : RewindView M → K → K → Type 0
  LeavesFront old out out' = IsFront state m old (sink_of held passed faults out) (sink_of held passed faults out')
