-- How many of its cycles stall: what a machine promises of its boot and of each instruction, and what its clock then has counted at each boundary of a run.
use Rattle.std.specs.Prelude.{◌≡◌, ℕ, ◌+◌, ◌<◌, ◌≤◌, List, Some}
use Rattle.ijvm_simulation.specs.Common.{World, Meaning, MicroRun, turns, ImageView, Instr, instr_at, State, start_of, Goes, Limits, step_outcome, TimedImage}
use Rattle.ijvm_simulation.specs.Common.{Point, point_after, first_point, Timing, cost, VerifiedView}
use Rattle.ijvm_simulation.specs.Reset.{reset_run}
use Rattle.mic_clock.specs.declared.end.End.TheVariants as clocked
use Rattle.ijvm_simulation.specs.Interpretation.{Interpretation}
use Rattle.ijvm_simulation.specs.Stands.{Origin, IsAt}
use Rattle.ijvm_simulation.specs.Passes.{Moment}
use Rattle.ijvm_simulation.specs.Outcomes.{Went, Overran}
use Rattle.ijvm_simulation.specs.Verified.{program, Loads, Fine, IsNext}
use Rattle.ijvm_simulation.specs.Law.{Moves, Overruns, reset_moment}

module _ {S : Type 0} (m : Meaning S) (words : List ℕ) (IsAt : State → S → World → Type 0) (before : List ℕ) where
  -- this many cycles, of which this many stall, lead from a boundary to the next, which stands for this state
  pub record MovesWithStalls (q : Moment S) (spent stalls : ℕ) (to : State) : Type 0 where
    pub moves : Moves m words IsAt before q spent to
    pub stalled : moves.there.stalls ≡ q.stalls + stalls

  -- some cycles after a boundary a write meets the stack's end, and no more than this many of them stalled
  pub record OverrunsWithStalls (q : Moment S) (stalls : ℕ) (left : State) : Type 0 where
    pub overruns : Overruns m words IsAt before q left
    pub stalled : overruns.there.stalls ≤ q.stalls + stalls

  -- what the instructions of a group take of a machine that runs a verified image, with the stalls of each
  pub record TakesWithStalls (timing : Timing) (stalls_of : ImageView → Instr → ℕ) (v : VerifiedView) (o : Origin) (Has : Instr → Type 0) : Type 0 where
    pub goes : (s to : State) (q : Moment S) (i : Instr) → Has i → Fine v s → IsNext v o s i → IsAt s q.state q.world →
        Went v.image v.map.stack_end s to i → MovesWithStalls q (cost v.image timing i s) (stalls_of v.image i) to
    pub limits : (s left : State) (q : Moment S) (i : Instr) → Has i → Fine v s → IsNext v o s i → IsAt s q.state q.world →
        Overran v.image v.map.stack_end s left i → OverrunsWithStalls q (stalls_of v.image i) left

-- from its reset a machine with a microprogram at this entry comes to the first boundary, with this many stalls
abbrev pub BootsWithStalls : {S : Type 0} → Meaning S → List ℕ → (Origin → State → S → World → Type 0) → ℕ → Timing →
    ℕ → VerifiedView → Origin → List ℕ → Type 0
BootsWithStalls m words IsAt entry timing stalls v o input =
    MovesWithStalls m words (IsAt o) o.given (reset_moment m entry v.main_locals o input) timing.boot stalls (start_of v.main_locals input)

-- The boundaries that the definition's run passes, each with the stalls before it: those of the boot, and those of each instruction passed.
pub data HasStalled (booting : ℕ) (stalls_of : ImageView → Instr → ℕ) (p : TimedImage) (bound : ℕ) (first : Point) : Point → ℕ → Type 0 where
  Booted : (at : Point) → at ≡ first → HasStalled booting stalls_of p bound first at booting
  Following : (at next : Point) (stalls : ℕ) (i : Instr) (to : State) → HasStalled booting stalls_of p bound first at stalls → at.cycles < bound →
      instr_at p.image.text at.state.at ≡ Some i → step_outcome p.image p.stack_end at.state ≡ Goes to → next ≡ point_after p at to →
      HasStalled booting stalls_of p bound first next (stalls + stalls_of p.image i)

-- the stack limit has ended the run, with at most this many stalls
pub record StoppedWithin {S : Type 0} (stalls : ℕ) (r : MicroRun S) : Type 0 where
  pub end : r.end ≡ Some clocked.StackLimit
  pub stalled : r.counts.stalls ≤ stalls

-- a machine's meaning, where its store begins, and what is spent; and the stalls of its boot and of each instruction
module _ {S : Type 0} (m : Meaning S) (entry : ℕ) (timing : Timing) (booting : ℕ) (stalls_of : ImageView → Instr → ℕ) where
  -- at each boundary of a run the clock has counted the stalls of the boot and of the instructions passed, and no other
  abbrev pub CountsStalls : List ℕ → Origin → VerifiedView → List ℕ → ℕ → Type 0
  CountsStalls store o v input bound =
      (at : Point) (stalls : ℕ) → HasStalled booting stalls_of (program timing v) bound (first_point (program timing v) v.main_locals input) at stalls →
      (turns m store (Some bound) at.cycles
      (reset_run m entry v.main_locals
      (record { words = o.words; untaken = input; given = o.given }))).counts.stalls ≡ stalls

  -- where the stack's end then cuts an instruction short, its cycles have stalled no more often than the whole instruction does
  abbrev pub CutsShort : List ℕ → Origin → VerifiedView → List ℕ → ℕ → Type 0
  CutsShort store o v input bound =
      (at : Point) (stalls : ℕ) (i : Instr) (left : State) →
      HasStalled booting stalls_of (program timing v) bound (first_point (program timing v) v.main_locals input) at stalls →
      at.cycles < bound → instr_at v.image.text at.state.at ≡ Some i → step_outcome v.image v.map.stack_end at.state ≡ Limits left →
      (n : ℕ) × StoppedWithin (stalls + stalls_of v.image i)
      (turns m store (Some bound) n (reset_run m entry v.main_locals
      (record { words = o.words; untaken = input; given = o.given })))

-- this holds over the store that ships and every verified image

abbrev pub RunsStall : {M S : Type 0} → Interpretation M S → ℕ → (ImageView → Instr → ℕ) → Type 0
RunsStall i booting stalls_of =
    (store : List ℕ) (o : Origin) (v : VerifiedView) (input : List ℕ) (bound : ℕ) → i.IsShipped store → Loads v o →
    CountsStalls i.meaning i.entry i.timing booting stalls_of store o v input bound

abbrev pub LimitsStall : {M S : Type 0} → Interpretation M S → ℕ → (ImageView → Instr → ℕ) → Type 0
LimitsStall i booting stalls_of =
    (store : List ℕ) (o : Origin) (v : VerifiedView) (input : List ℕ) (bound : ℕ) → i.IsShipped store → Loads v o →
    CutsShort i.meaning i.entry i.timing booting stalls_of store o v input bound

-- A machine: its meaning, when its next instruction is ready, its store that ships, where that begins, and what is spent.
module _ {S : Type 0} (m : Meaning S) (IsReady : ℕ → List ℕ → ℕ → S → World → Type 0) (IsShipped : List ℕ → Type 0) (entry : ℕ) (timing : Timing) where
  -- Stalls add up, where the boot and each instruction stall as often as this says.
  abbrev pub StallsAddUp : Type 0
  StallsAddUp =
      (booting : ℕ) (stalls_of : ImageView → Instr → ℕ) (store : List ℕ) (o : Origin) (v : VerifiedView)
      (input : List ℕ) (bound : ℕ) → IsShipped store → Loads v o →
      BootsWithStalls m store (IsAt m IsReady entry) entry timing booting v o input →
      TakesWithStalls m store (IsAt m IsReady entry o) o.given timing stalls_of v o (λ i. Unit {0}) →
      CountsStalls m entry timing booting stalls_of store o v input bound

  -- They add up also where the stack's end cuts an instruction short.
  abbrev pub CutShort : Type 0
  CutShort =
      (booting : ℕ) (stalls_of : ImageView → Instr → ℕ) (store : List ℕ) (o : Origin) (v : VerifiedView)
      (input : List ℕ) (bound : ℕ) → IsShipped store → Loads v o →
      BootsWithStalls m store (IsAt m IsReady entry) entry timing booting v o input →
      TakesWithStalls m store (IsAt m IsReady entry o) o.given timing stalls_of v o (λ i. Unit {0}) →
      CutsShort m entry timing booting stalls_of store o v input bound
