-- What a session does with a line.
use Rattle.std.specs.Prelude.{◌≡◌, ℕ, List, [], Option}
use Rattle.mic_debugger.specs.Common.{IsFlushed, Meaning, MicroRun, BoardView, ShowsRun, GotInPart, IsFrontOf}
use Rattle.mic_debugger.specs.declared.plan.Plan.{Plan}
use Rattle.mic_debugger.specs.declared.plan.Plan.TheVariants as plans
use Rattle.mic_debugger.specs.declared.until.Until.{Until}
use Rattle.mic_debugger.specs.Book.{Book}
use Rattle.mic_debugger.specs.Clocking.{IsTold}
use Rattle.mic_debugger.specs.Commands.{command_of}
use Rattle.mic_debugger.specs.Outcome.{GoesThrough, IsBrokenOff, Streams}
use Rattle.mic_debugger.specs.Plans.{breaks_after, plan_of, watched_after}
use Rattle.mic_debugger.specs.Session.{IsStopped, StandsAfter}
use Rattle.mic_debugger.specs.Stand.{Carries, Does, IsPart, IsWhole, Rules, Stand, StandsAt, plan_at, rules_of, stand_in}
use Rattle.mic_debugger.specs.View.{ListingView, SessionView}

-- what a line comes to in a session
abbrev pub plan_in : {M : Type 0} → SessionView M → List ℕ → Plan
plan_in v line = plan_of v.board.end v.breaks v.watched v.board.bus.words (command_of v.listing.memory line)

-- a session over a board
abbrev pub session_at : {M : Type 0} → BoardView M → ListingView → ℕ → List ℕ → Option ℕ → SessionView M
session_at board listing bound breaks watched =
    record { board = board; listing = listing; bound = bound; breaks = breaks; watched = watched }

-- no line changes what a session lists, its bound and its control store
pub record KeepsRules {M : Type 0} (old new : SessionView M) : Type 0 where
  pub listing : new.listing ≡ old.listing
  pub bound : new.bound ≡ old.bound
  pub store : new.board.store ≡ old.board.store

module _ {M State : Type 0} (state : M → State) (m : Meaning State) (old : SessionView M) (board' : BoardView M) (at at' : Streams) where
  -- a plan leads a run to one that the board shows
  abbrev pub CarriesTo : Plan → Book → List ℕ → MicroRun State → List ℕ → Type 0
  CarriesTo plan book text r rest =
      (run : MicroRun State) × Carries m (rules_of old book) (IsWhole m (rules_of old book)) plan (stand_in old r) text run
      × ShowsRun state at'.input.left at'.out.held board' run × (run.world.untaken ≡ rest)

  -- a failing source stops a plan, which clocks
  abbrev pub StopsTo : Plan → Book → List ℕ → MicroRun State → List ℕ → Type 0
  StopsTo plan book text r rest =
      (u : Until) × (times : ℕ) × (plan ≡ plans.Clock u times) × (n : ℕ) × (k : ℕ)
      × IsStopped state m book old.board.store.words old.breaks old.bound u times at'.input.left at'.out.held board' rest text n k r

  -- A failing sink breaks a plan off at a moment of its way: the board stands there, `out` holds a front of what was
  -- given by then, and `err` got a front of what was printed by then, all but the lines of the last turn whole.
  pub record IsBrokenAt (rules : Rules) (plan : Plan) (s : Stand State) : Type 0 where
    pub run : MicroRun State
    pub text : List ℕ
    pub begun : Carries m rules
        (λ s u times n. IsPart m rules s u times n × IsTold m rules.book rules.words s.breaks rules.bound u at.err.held at'.err.held n s.run) plan s text run
    pub here : StandsAfter state board' run
    pub out : IsFrontOf at'.out.held run.world.given
    pub err : GotInPart at.err.held text at'.err.held

  abbrev pub IsCarriedOut : Plan → Type 0
  IsCarriedOut plan = GoesThrough state old.listing at at' old.board board' (CarriesTo plan) (StopsTo plan)

  abbrev pub IsPlanBroken : Plan → Type 0
  IsPlanBroken plan =
      IsBrokenOff state old.listing at at' old.board board' (λ book r rest. IsBrokenAt (rules_of old book) plan (stand_in old r))

module _ {M State : Type 0} (state : M → State) (m : Meaning State) (line : List ℕ) (old new : SessionView M) (at at' : Streams) where
  -- the line leads a stand of the session to a stand of it after
  abbrev pub DoesTo : Book → List ℕ → MicroRun State → List ℕ → Type 0
  DoesTo book text r rest =
      (s' : Stand State) × Does m (rules_of old book) line (stand_in old r) text s'
      × StandsAt state at'.input.left at'.out.held new s' × (s'.run.world.untaken ≡ rest)

  -- a line was done: nothing waits for `out`, and `err` has passed on all that it holds
  pub record Obeys : Type 0 where
    pub through : GoesThrough state old.listing at at' old.board new.board DoesTo (StopsTo state m old new.board at at' (plan_in old line))
    pub breaks : new.breaks ≡ breaks_after old.breaks (command_of old.listing.memory line)
    pub watched : new.watched ≡ watched_after old.watched (command_of old.listing.memory line)
    pub kept : new.board.bus.console.kept ≡ []
    pub passed : IsFlushed at'.err.held at'.err.passed

  -- a failing sink broke a line off: breakpoints and the watched word stay
  pub record IsLineBroken : Type 0 where
    pub broken : IsBrokenOff state old.listing at at' old.board new.board
        (λ book r rest. IsBrokenAt state m old new.board at at' (rules_of old book) (plan_at m (rules_of old book) (stand_in old r) line) (stand_in old r))
    pub breaks : new.breaks ≡ old.breaks
    pub watched : new.watched ≡ old.watched
