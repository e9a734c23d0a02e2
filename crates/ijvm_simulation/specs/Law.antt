-- What one instruction takes of a machine, and what a machine promises that interprets a verified image.
use Rattle.std.specs.Prelude.{◌≡◌, ◌⊎◌, ℕ, ◌+◌, ◌-◌, ◌<◌, ◌==◌, true, false, Some, List, ◌++◌, slice_index}
use Rattle.ijvm_simulation.specs.Common.{World, StackLimit, Meaning, Outcome, Done, Refused, Instr, State, sp_of, lv_of, Timing, cost, VerifiedView}
use Rattle.ijvm_instr.specs.declared.instr.Instr.TheVariants.{Err, Halt}
use Rattle.ijvm_simulation.specs.Stands.{Origin}
use Rattle.ijvm_simulation.specs.Passes.{Moment, is_inside, outcome_at, pass}
use Rattle.ijvm_simulation.specs.Outcomes.{Went, Overran}
use Rattle.ijvm_simulation.specs.Verified.{Fine, IsNext}

-- MPC is at no end
pub record HasWord {S : Type 0} (m : Meaning S) (x : S) : Type 0 where
  pub no_halt : ((m.registers x).mpc == 0x0FF) ≡ false
  pub no_err : ((m.registers x).mpc == 0x0FE) ≡ false

module _ {S : Type 0} (m : Meaning S) (words : List ℕ) (IsAt : State → S → World → Type 0) (before : List ℕ) where
  -- this many cycles lead from a boundary to the next, which stands for this state
  pub record Moves (q : Moment S) (spent : ℕ) (to : State) : Type 0 where
    pub n : ℕ
    pub spent_is : spent ≡ n + 1
    pub short : n < 1024
    pub begins : HasWord m q.state
    pub there : Moment S
    pub passes : pass m words n q ≡ Some there
    pub stands : IsAt to there.state there.world

  -- the clock ends the run at a boundary
  pub record StopsHere (q : Moment S) (spent mpc : ℕ) : Type 0 where
    pub spent_is : spent ≡ 0
    pub mpc_is : (m.registers q.state).mpc ≡ mpc

  -- this many cycles lead from a boundary to where the clock ends the run
  pub record StopsAfter (q : Moment S) (spent mpc : ℕ) : Type 0 where
    pub n : ℕ
    pub spent_is : spent ≡ n + 1
    pub short : n < 1023
    pub begins : HasWord m q.state
    pub there : Moment S
    pub passes : pass m words n q ≡ Some there
    pub off : m.is_boundary there.state ≡ false
    pub mpc_is : (m.registers there.state).mpc ≡ mpc
    pub world : there.world ≡ q.world

  abbrev pub Stops : Moment S → ℕ → ℕ → Type 0
  Stops q spent mpc = StopsHere q spent mpc ⊎ StopsAfter q spent mpc

  -- some cycles after a boundary a write meets the stack's end, with this state's bytes of the console
  pub record Overruns (q : Moment S) (left : State) : Type 0 where
    pub n : ℕ
    pub short : n < 1023
    pub begins : HasWord m q.state
    pub there : Moment S
    pub passes : pass m words n q ≡ Some there
    pub inside : is_inside m there.state ≡ true
    pub at : ℕ
    pub refused : outcome_at m words there ≡ Refused (StackLimit at)
    pub untaken : there.world.untaken ≡ left.untaken
    pub given : there.world.given ≡ before ++ left.given

  -- what a machine shows at a boundary
  pub record ShowsState (s : State) (x : S) (w : World) : Type 0 where
    pub boundary : m.is_boundary x ≡ true
    pub address : m.address x ≡ s.at
    pub sp : (m.registers x).sp ≡ sp_of s
    pub lv : (m.registers x).lv ≡ lv_of s
    pub untaken : w.untaken ≡ s.untaken
    pub given : w.given ≡ before ++ s.given

  -- `timing` says what is spent.
  module _ (timing : Timing) where
    -- from its reset, which is no boundary, a machine comes to the first one
    pub record Boots (q : Moment S) (first : State) : Type 0 where
      pub off : m.is_boundary q.state ≡ false
      pub moves : Moves q timing.boot first

    -- what the instructions of a group take of a machine that runs a verified image
    pub record Takes (v : VerifiedView) (o : Origin) (Has : Instr → Type 0) : Type 0 where
      pub goes : (s to : State) (q : Moment S) (i : Instr) → Has i → Fine v s → IsNext v o s i → IsAt s q.state q.world →
          Went v.image v.map.stack_end s to i → Moves q (cost v.image timing i s) to
      pub limits : (s left : State) (q : Moment S) (i : Instr) → Has i → Fine v s → IsNext v o s i → IsAt s q.state q.world →
          Overran v.image v.map.stack_end s left i → Overruns q left

    -- where HALT and ERR lead
    pub record HaltsAndErrs (v : VerifiedView) (o : Origin) : Type 0 where
      pub halts : (s : State) (q : Moment S) → Fine v s → IsNext v o s Halt → IsAt s q.state q.world → Stops q (cost v.image timing Halt s) 0x0FF
      pub errs : (s : State) (q : Moment S) → Fine v s → IsNext v o s Err → IsAt s q.state q.world → Stops q (cost v.image timing Err s) 0x0FE

    -- what each instruction takes, in the states that a run comes to
    pub record Law (v : VerifiedView) (o : Origin) : Type 0 where
      pub shows : (s : State) (x : S) (w : World) → IsAt s x w → ShowsState s x w
      pub takes : Takes v o (λ i. Unit {0})
      pub ends : HaltsAndErrs v o

-- the moment at a reset over these words, with this input left
abbrev pub reset_moment : {S : Type 0} → Meaning S → ℕ → ℕ → Origin → List ℕ → Moment S
reset_moment m entry main_locals o input =
    record {
      state = m.initial (record { entry = entry; sp = 0x8000 + main_locals - 1; first = slice_index o.words 0 });
      world = record { words = o.words; untaken = input; given = o.given };
      stalls = 0;
    }

-- the second list begins with the first
pub record Grows (old new : List ℕ) : Type 0 where
  pub more : List ℕ
  pub are : new ≡ old ++ more

-- what holds of the world after a microstep that is done
abbrev pub OnDone : {S : Type 0} → (World → Type 0) → Outcome S → Type 0
OnDone P (Done s v) = P v
OnDone P (Refused why) = Unit {0}
