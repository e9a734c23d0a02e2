-- What the second store spends, by what the first spends, and all that it does then.
use Rattle.std.specs.Prelude.{◌≡◌, ◌⊎◌, ◌<◌, ◌+◌, ◌-◌, ◌==◌, ◌&&◌, if◌then◌else◌, ℕ, List, [], ◌∷◌, Option, Some, None, slice_index, unwrap_or}
use Rattle.mic1_checks.specs.Common.{All, World, Micro, mic1_meaning, IsReady, Instr, Cost, Always, IfTaken, ByEntry, Timing, cost, State, VerifiedView, Origin}
use Rattle.mic1_checks.specs.Common.{IsAt, Moment, Boots, Moves, Overruns, ShowsState, StopsAfter, Takes, reset_moment, Went, Overran, Loads}
use Rattle.ijvm_instr.specs.declared.instr.Instr.TheVariants.{Err, Halt}
use Rattle.mic1_checks.specs.declared.judged.Costs.{Costs}
use Rattle.mic1_checks.specs.declared.leaf.Counts.{Counts}
use Rattle.mic1_checks.specs.Boot.{BOOT}
use Rattle.mic1_checks.specs.Listed.{row_number}
use Rattle.mic1_checks.specs.Ready.{IsReadyOrArriving}
use Rattle.mic1_checks.specs.Situation.{StandsBefore}
use Rattle.mic1_checks.specs.Words.{HasWords}

-- of two leaves of one row, the first counts decide the second ones
abbrev pub Agree : Counts → Counts → Type 0
Agree a b = a.row ≡ b.row → a.first ≡ b.first → a.second ≡ b.second

abbrev pub DecideSeconds : List Counts → Type 0
DecideSeconds leaves = All (λ a. All (λ b. Agree a b) leaves) leaves

-- the second count of a row's leaf with this first count
abbrev pub second_in : List Counts → ℕ → ℕ → Option ℕ
second_in [] row first = None
second_in (c ∷ cs) row first = if (c.row == row) && (c.first == first) then Some c.second else second_in cs row first

-- the cycles of the second store in a row, where the first store spends so many
abbrev pub spent_by : List Counts → ℕ → ℕ → ℕ
spent_by leaves row spent = unwrap_or (second_in leaves row (spent - 1)) 0 + 1

abbrev pub cost_by : (ℕ → ℕ) → Cost → Cost
cost_by f (Always cycles) = Always (f cycles)
cost_by f (IfTaken jumps falls) = IfTaken (f jumps) (f falls)
cost_by f (ByEntry early late) = ByEntry (f early) (f late)

abbrev pub instruction_by : Costs → Timing → Instr → Cost
instruction_by costs t Halt = Always (costs.ends.halt + 1)
instruction_by costs t Err = Always (costs.ends.err + 1)
instruction_by costs t i = cost_by (spent_by costs.leaves.items (row_number i)) (t.of i)

-- what the second store spends, if the first spends this
abbrev pub timing_by : Costs → Timing → Timing
timing_by costs t = record { boot = spent_by costs.leaves.items BOOT t.boot; of = instruction_by costs t }

module _ (store' : List ℕ) (entry' : ℕ) where
  -- the second store moves in so many cycles to this state, and holds words there
  pub record MovesOn (before : List ℕ) (o : Origin) (q : Moment Micro) (spent : ℕ) (to : State) : Type 0 where
    pub moves : Moves mic1_meaning store' (IsAt mic1_meaning IsReadyOrArriving entry' o) before q spent to
    pub words : HasWords moves.there.state moves.there.world

  -- where an instruction leads in the second store
  pub record GoesOn (before : List ℕ) (timing : Timing) (v : VerifiedView) (o : Origin) (s : State) (q : Moment Micro) (i : Instr) : Type 0 where
    pub goes : (to : State) → Went v.image v.map.stack_end s to i → MovesOn before o q (cost v.image timing i s) to
    pub limits : (left : State) → Overran v.image v.map.stack_end s left i →
        Overruns mic1_meaning store' (IsAt mic1_meaning IsReadyOrArriving entry' o) before q left

-- The second store does what the first does, spends what follows from what the first spends, and shows the definition's state
-- at each boundary.
pub record CarriesAll (store store' : List ℕ) (entry entry' : ℕ) (costs : Costs) : Type 0 where
  pub shows : (o : Origin) (s : State) (m : Micro) (w : World) → IsAt mic1_meaning IsReadyOrArriving entry' o s m w →
      ShowsState mic1_meaning store' (IsAt mic1_meaning IsReadyOrArriving entry' o) o.given s m w
  pub boots : (timing : Timing) (v : VerifiedView) (o : Origin) (input : List ℕ) (first : State) → Loads v o →
      ((k : ℕ) → slice_index o.words k < 4294967296) →
      Boots mic1_meaning store (IsAt mic1_meaning IsReady entry o) o.given timing (reset_moment mic1_meaning entry v.main_locals o input) first →
      MovesOn store' entry' o.given o (reset_moment mic1_meaning entry' v.main_locals o input) (timing_by costs timing).boot first
  pub takes : (before : List ℕ) (timing : Timing) (v : VerifiedView) (o : Origin) (s : State) (q : Moment Micro) (i : Instr) →
      Takes mic1_meaning store (IsAt mic1_meaning IsReady entry o) before timing v o (λ i. Unit {0}) →
      StandsBefore entry' v o s q i → (i ≡ Halt) ⊎ ((i ≡ Err) ⊎ GoesOn store' entry' before (timing_by costs timing) v o s q i)
  pub halts : (before : List ℕ) (timing : Timing) (v : VerifiedView) (o : Origin) (s : State) (q : Moment Micro) → StandsBefore entry' v o s q Halt →
      StopsAfter mic1_meaning store' (IsAt mic1_meaning IsReadyOrArriving entry' o) before q (cost v.image (timing_by costs timing) Halt s) 0x0FF
  pub errs : (before : List ℕ) (timing : Timing) (v : VerifiedView) (o : Origin) (s : State) (q : Moment Micro) → StandsBefore entry' v o s q Err →
      StopsAfter mic1_meaning store' (IsAt mic1_meaning IsReadyOrArriving entry' o) before q (cost v.image (timing_by costs timing) Err s) 0x0FE
