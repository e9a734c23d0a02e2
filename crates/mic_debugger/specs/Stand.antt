-- Where a session stands, and what a line does there: the definition of debugging.
use Rattle.std.specs.Prelude.{◌≡◌, ℕ, List, Option}
use Rattle.mic_clock.specs.Prelude.{Meaning, MicroRun, ShowsRun}
use Rattle.mic_debugger.specs.declared.plan.Plan.{Plan}
use Rattle.mic_debugger.specs.declared.plan.Plan.TheVariants as plans
use Rattle.mic_debugger.specs.declared.until.Until.{Until}
use Rattle.mic_debugger.specs.Book.{Book}
use Rattle.mic_debugger.specs.Clocking.{IsDone, IsGoing, after, printed}
use Rattle.mic_debugger.specs.Commands.{command_of}
use Rattle.mic_debugger.specs.Plans.{breaks_after, plan_of, shown_text, watched_after}
use Rattle.mic_debugger.specs.View.{SessionView}

-- what names words and instructions, the words of the control store, the number of memory words, and the bound
pub record Rules : Type 0 where
  pub book : Book
  pub words : List ℕ
  pub memory : ℕ
  pub bound : ℕ

-- the rules of a session with this book
abbrev pub rules_of : {M : Type 0} → SessionView M → Book → Rules
rules_of v book = record { book = book; words = v.board.store.words; memory = v.listing.memory; bound = v.bound }

-- a clocked run, the breakpoints and the watched word
pub record Stand (State : Type 0) : Type 0 where
  pub run : MicroRun State
  pub breaks : List ℕ
  pub watched : Option ℕ

-- a session between what its input has left and what `out` holds shows a stand
pub record StandsAt {M State : Type 0} (state : M → State) (left held : Option (List ℕ)) (v : SessionView M) (s : Stand State) : Type 0 where
  pub run : ShowsRun state left held v.board s.run
  pub breaks : s.breaks ≡ v.breaks
  pub watched : s.watched ≡ v.watched

-- the stand of a session whose board shows this run
abbrev pub stand_in : {M State : Type 0} → SessionView M → MicroRun State → Stand State
stand_in v r = record { run = r; breaks = v.breaks; watched = v.watched }

module _ {State : Type 0} (m : Meaning State) (rules : Rules) where
  -- this many turns from a stand are all of a clocking command, or are a part of it

  abbrev pub IsWhole : Stand State → Until → ℕ → ℕ → Type 0
  IsWhole s u times n = IsDone m rules.book rules.words s.breaks rules.bound u times n s.run

  abbrev pub IsPart : Stand State → Until → ℕ → ℕ → Type 0
  IsPart s u times n = IsGoing m rules.book rules.words s.breaks rules.bound u times n s.run

  -- A plan leads to this run and prints this text: by turns of which this holds, or the run stays and something is shown.
  abbrev pub Carries : (Stand State → Until → ℕ → ℕ → Type 0) → Plan → Stand State → List ℕ → MicroRun State → Type 0
  Carries Turns (plans.Clock u times) s text run =
      (n : ℕ) × Turns s u times n × (run ≡ after m rules.book rules.words s.breaks rules.bound u n s.run)
      × (text ≡ printed m rules.book rules.words s.breaks rules.bound u n s.run)
  Carries Turns (plans.Show shown) s text run =
      (run ≡ s.run) × (text ≡ shown_text rules.book rules.memory (m.registers s.run.state) s.run.counts s.run.world.words shown)

  abbrev pub plan_at : Stand State → List ℕ → Plan
  plan_at s line = plan_of s.run.end s.breaks s.watched s.run.world.words (command_of rules.memory line)

  -- a line leads from one stand to the next, and prints this text
  pub record Does (line : List ℕ) (s : Stand State) (text : List ℕ) (s' : Stand State) : Type 0 where
    pub carries : Carries IsWhole (plan_at s line) s text s'.run
    pub breaks : s'.breaks ≡ breaks_after s.breaks (command_of rules.memory line)
    pub watched : s'.watched ≡ watched_after s.watched (command_of rules.memory line)
