-- The clocked run of a machine over a world, turn by turn, with this profile's counts and ends. The rule that a turn keeps is in `Rule`.
use Rattle.std.specs.Prelude.{◌≡◌, ℕ, zero, suc, ◌+◌, ◌-◌, ◌<◌, nat_le, ◌==◌, if◌then◌else◌, Bool, true, false, List, Option, Some, None, IsSome, is_some, slice_index}
use Rattle.mic_clock.specs.Common.{iterate, World, fault_of, BusFault}
use Rattle.console_port.specs.declared.fault.BusFault.TheVariants as faults
use Rattle.mic_clock.specs.declared.buses.Drive.{Drive}
use Rattle.mic_clock.specs.declared.buses.Computed.{Computed}
use Rattle.mic_clock.specs.declared.registers.Registers.{Registers}
use Rattle.mic_clock.specs.declared.counts.Boundary.{Boundary}
use Rattle.mic_clock.specs.declared.counts.Counts.{Counts}
use Rattle.mic_clock.specs.declared.end.End.{End}
use Rattle.mic_clock.specs.declared.end.End.TheVariants as ends
use Rattle.mic_clock.specs.Meaning.{Meaning, Outcome, Done, Refused}

-- where a run stands between two turns
pub record MicroRun (State : Type 0) : Type 0 where
  pub state : State
  pub world : World
  pub counts : Counts
  pub end : Option End

abbrev pub number_of : Bool → ℕ
number_of true = 1
number_of false = 0

-- the cycles at the last boundary, or 0 where there was none
abbrev pub last_cycles : Option Boundary → ℕ
last_cycles None = 0
last_cycles (Some b) = b.cycles

-- the cycles since the last boundary, or since reset where there was none
abbrev pub since : Counts → ℕ
since c = c.cycles - last_cycles c.boundary

abbrev pub start_counts : Counts
start_counts = record { cycles = 0; instructions = 0; stalls = 0; boundary = None }

-- the counts after a clocked cycle that comes to no boundary
abbrev pub counts_between : Counts → Bool → Counts
counts_between c stalled =
    record { cycles = c.cycles + 1; instructions = c.instructions; stalls = c.stalls + number_of stalled; boundary = c.boundary }

-- the counts after a clocked cycle that comes to a boundary, at this address with these registers
abbrev pub counts_at : Counts → Bool → ℕ → Registers → Counts
counts_at c stalled at r =
    record {
      cycles = c.cycles + 1;
      instructions = c.instructions + number_of (is_some c.boundary);
      stalls = c.stalls + number_of stalled;
      boundary = Some (record { cycles = c.cycles + 1; at = at; sp = r.sp; lv = r.lv });
    }

-- an end by Halt or Err completes an instruction where a boundary was reached before
abbrev pub completes : End → Bool
completes ends.Halt = true
completes ends.Err = true
completes e = false

abbrev pub counts_ended : Counts → End → Counts
counts_ended c e =
    record {
      cycles = c.cycles;
      instructions = if completes e then c.instructions + number_of (is_some c.boundary) else c.instructions;
      stalls = c.stalls;
      boundary = c.boundary;
    }

-- the end by a refusal or a fault
abbrev pub end_by : BusFault → End
end_by faults.ReadFault = ends.ReadFault
end_by faults.WriteFault = ends.WriteFault
end_by (faults.StackLimit at) = ends.StackLimit
end_by (faults.OutOfMap at) = ends.OutOfMap at

-- the values on the buses in a microstep
pub record Buses : Type 0 where
  pub drive : Drive
  pub computed : Computed

-- no bus is driven before the first cycle
abbrev pub start_buses : Buses
start_buses =
    record {
      drive = record { a = 0; b = 0; stalled = false };
      computed = record { alu = record { value = 0; n = false; z = false }; c = 0 };
    }

module _ {State : Type 0} (m : Meaning State) where
  -- the bus values in the step of a word
  abbrev pub buses_in : ℕ → State → Buses
  buses_in word s = record { drive = m.drives word s; computed = m.computes word s }

  -- a run at its reset, whose first MPC is `first`
  abbrev pub start_run : ℕ → ℕ → World → MicroRun State
  start_run first sp w =
      record { state = m.initial (record { entry = first; sp = sp; first = slice_index w.words 0 }); world = w; counts = start_counts; end = None }

  -- the end that comes before a cycle, if one does
  abbrev pub end_before : State → Counts → Option End
  end_before s c =
      if (m.registers s).mpc == 0x0FF then Some ends.Halt else
      if (m.registers s).mpc == 0x0FE then Some ends.Err else
      if nat_le 1024 (since c) then Some ends.Adrift else None

  abbrev pub counts_after : Counts → Bool → State → Counts
  counts_after c stalled s = if m.is_boundary s then counts_at c stalled (m.address s) (m.registers s) else counts_between c stalled

  -- the test of the bound: at a boundary, cycles at least the bound end the run
  abbrev pub bounded_by : Option End → ℕ → MicroRun State → MicroRun State
  bounded_by (Some e) bound r = r
  bounded_by None bound r =
      if m.is_boundary r.state then
      (if nat_le bound r.counts.cycles then record { state = r.state; world = r.world; counts = r.counts; end = Some ends.Bound } else r)
      else r

  -- the run after the test of a bound, where one is tested
  abbrev pub bounded : Option ℕ → MicroRun State → MicroRun State
  bounded None r = r
  bounded (Some bound) r = bounded_by r.end bound r

-- `words` is the control store.
module _ {State : Type 0} (m : Meaning State) (words : List ℕ) where
  abbrev pub word_at : State → ℕ
  word_at s = slice_index words (m.registers s).mpc

  -- the run after its microstep
  abbrev pub after_step : MicroRun State → Outcome State → MicroRun State
  after_step r (Done s w) = record { state = s; world = w; counts = counts_after m r.counts (m.drives (word_at r.state) r.state).stalled s; end = None }
  after_step r (Refused refusal) = record { state = r.state; world = r.world; counts = r.counts; end = Some (end_by (fault_of refusal)) }

  -- the run after an end that comes before a cycle, else after a microstep
  abbrev pub after_end_or_step : Option End → MicroRun State → MicroRun State
  after_end_or_step (Some e) r = record { state = r.state; world = r.world; counts = counts_ended r.counts e; end = Some e }
  after_end_or_step None r = after_step r (m.step (word_at r.state) r.state r.world)

  -- one turn without the test of the bound: an ended run stays
  abbrev pub turn_by : Option End → MicroRun State → MicroRun State
  turn_by (Some e) r = r
  turn_by None r = after_end_or_step (end_before m r.state r.counts) r

  abbrev pub turn : MicroRun State → MicroRun State
  turn r = turn_by r.end r

  -- this many turns, each with the test of the bound before it where one is tested
  abbrev pub turns : Option ℕ → ℕ → MicroRun State → MicroRun State
  turns bound n r = iterate (λ x. turn (bounded m bound x)) n r

  -- that the next turn comes to a microstep
  pub record IsClocking (bound : Option ℕ) (r : MicroRun State) : Type 0 where
    pub running : (bounded m bound r).end ≡ None
    pub no_end : end_before m r.state r.counts ≡ None

  -- that a run is inside an instruction
  pub record IsInside (r : MicroRun State) : Type 0 where
    pub running : r.end ≡ None
    pub no_boundary : m.is_boundary r.state ≡ false

  -- n turns, at least one, with no boundary and no end between them
  pub record IsLeg (n : ℕ) (r : MicroRun State) : Type 0 where
    pub some : 0 < n
    pub inside : (k : ℕ) → 0 < k → k < n → IsInside (turns None k r)

  -- the bus values after a turn from this state: an end leaves them
  abbrev pub buses_of : State → Buses → Option End → Buses
  buses_of s old (Some e) = old
  buses_of s old None = buses_in m (word_at s) s

  -- the bus values after this many turns
  abbrev pub buses : Option ℕ → ℕ → MicroRun State → Buses → Buses
  buses bound zero r old = old
  buses bound (suc n) r old = buses_of (turns bound n r).state (buses bound n r old) (turns bound (suc n) r).end

module _ {State : Type 0} (m : Meaning State) where
  -- turns add up
  abbrev pub TurnsAdd : Type 0
  TurnsAdd =
      (words : List ℕ) (bound : Option ℕ) (n k : ℕ) (r : MicroRun State) →
      turns m words bound (n + k) r ≡ turns m words bound k (turns m words bound n r)

  -- a run has one end
  abbrev pub HasOneEnd : Type 0
  HasOneEnd =
      (words : List ℕ) (bound : Option ℕ) (r : MicroRun State) (n k : ℕ) →
      IsSome (turns m words bound n r).end → IsSome (turns m words bound k r).end →
      turns m words bound n r ≡ turns m words bound k r
