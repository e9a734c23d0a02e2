-- The headline of a machine that was clocked over a verified image from its reset, with the store that ships: its run
-- stands for the definition's run, and the board that is left shows where that run ended, or where a fault cut it.
use Rattle.std.specs.Prelude.{◌≡◌, ◌⊎◌, ℕ, List, [], ◌++◌, replicate, Option, Some, IfSome, IsSome, unwrap_or, false}
use Rattle.ijvm_simulation.specs.Common.{HasTextWords, IsLoaded, Untaken, LosesLast, World, Meaning, ReadsConsole, UsesConsole, BoardView, MicroRun, turns}
use Rattle.ijvm_simulation.specs.Common.{word_at, IsClocking, Timing, Finish, first_point, EndsBy, VerifiedView}
use Rattle.ijvm_simulation.specs.Reset.{reset_run}
use Rattle.ijvm_simulation.specs.Stands.{IsAt}
use Rattle.ijvm_simulation.specs.Simulates.{Simulates, IsEnd}
use Rattle.ijvm_simulation.specs.Verified.{program}
use Rattle.ijvm_simulation.specs.Law.{Grows}

-- the bytes of a source or a sink, or none where they are not known
abbrev pub told_of : Option (List ℕ) → List ℕ
told_of told = unwrap_or told []

-- where it was known what a source had left, these bytes are left now
abbrev pub Leaves : Option (List ℕ) → Option (List ℕ) → List ℕ → Type 0
Leaves left left' untaken = (bytes : List ℕ) → left ≡ Some bytes → left' ≡ Some untaken

-- A machine: its meaning, when its next instruction is ready, its store that ships, where that begins, and what is spent.
module _ {M S : Type 0} (state : M → S) (m : Meaning S) (IsReady : ℕ → List ℕ → ℕ → S → World → Type 0)
    (IsShipped : List ℕ → Type 0) (entry : ℕ) (timing : Timing) where
  module _ (v : VerifiedView) (bound : ℕ) where
    -- How a run begins with a control store and a source: the store is the one that ships, the image was loaded into
    -- a memory of its map, and the bytes that are left are untaken, where they are known.
    pub record Begins (store : List ℕ) (left : Option (List ℕ)) (before : List ℕ) : Type 0 where
      pub shipped : IsShipped store
      pub words : List ℕ
      pub loaded : IsLoaded v.image.text v.image.pool (replicate v.map.stack_end 0) words
      pub text : HasTextWords v.image.text words
      pub input : List ℕ
      pub told : Untaken left false input
      pub simulates : Simulates m (IsAt m IsReady entry (record { words = words; given = before })) store bound
          (program timing v) (first_point (program timing v) v.main_locals input) before
          (reset_run m entry v.main_locals (record { words = words; untaken = input; given = before }))
      -- the definition's run
      pub finish : Finish
      pub finishes : EndsBy (program timing v) bound (first_point (program timing v) v.main_locals input) finish

    module _ (left held left' held' : Option (List ℕ)) (board : BoardView M) where
      -- the moment this many turns after the reset
      abbrev pub moment : Begins board.store.words left (told_of held) → ℕ → MicroRun S
      moment b n = turns m board.store.words (Some bound) n
          (reset_run m entry v.main_locals (record { words = b.words; untaken = b.input; given = told_of held }))

      -- the board shows this moment's registers, memory and counts, and what it left of the input is left
      pub record IsAtMoment (r : MicroRun S) : Type 0 where
        pub its_state : r.state ≡ state board.machine
        pub memory : r.world.words ≡ board.bus.words
        pub counts : r.counts ≡ board.counts
        pub untaken : Untaken left' board.bus.console.ended r.world.untaken
        pub leaves : Leaves left left' r.world.untaken

      -- no fault came: the run has ended, as the definition's has; the sink holds all its output, and what it left of the input is left
      pub record HasRun : Type 0 where
        pub begins : Begins board.store.words left (told_of held)
        pub n : ℕ
        pub at : IsAtMoment (moment begins n)
        pub end : (moment begins n).end ≡ board.end
        pub agrees : IsEnd (told_of held) begins.finish (moment begins n)
        pub untaken : Leaves left left' begins.finish.left.untaken
        pub given : IfSome held' (λ h. h ≡ told_of held ++ begins.finish.left.given)

      -- The source failed: the run was cut before a read of the console. The sink holds all that the cut run gave, which is a front of the definition's output.
      pub record IsCutByRead : Type 0 where
        pub begins : Begins board.store.words left (told_of held)
        pub n : ℕ
        pub at : IsAtMoment (moment begins n)
        pub next : IsClocking m board.store.words (Some bound) (moment begins n)
        pub reads : ReadsConsole m (word_at m board.store.words (moment begins n).state) (moment begins n).state (moment begins n).world
        pub given : IfSome held' (λ h. h ≡ (moment begins n).world.given)
        pub front : Grows (moment begins n).world.given (told_of held ++ begins.finish.left.given)

      -- The sink failed: the run was cut before an access of the console, or at its end, where the last bytes that
      -- were given waited. The sink holds a front of what the cut run gave, which is a front of the definition's
      -- output.
      pub record IsCutByWrite : Type 0 where
        pub begins : Begins board.store.words left (told_of held)
        pub n : ℕ
        pub at : IsAtMoment (moment begins n)
        pub next :
            (IsClocking m board.store.words (Some bound) (moment begins n)
            × UsesConsole m (word_at m board.store.words (moment begins n).state) (moment begins n).state (moment begins n).world)
            ⊎ (IsSome (moment begins n).end × LosesLast held' (moment begins n).world.given)
        pub given : IfSome held' (λ h. Grows (told_of held) h × Grows h (moment begins n).world.given)
        pub front : Grows (moment begins n).world.given (told_of held ++ begins.finish.left.given)
