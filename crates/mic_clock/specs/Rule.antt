-- The rule of a turn: how a run ends, and what is counted. By `turn_law` the turns of a run are those that keep it.
use Rattle.std.specs.Prelude.{◌≡◌, ◌≢◌, ℕ, ◌+◌, ◌≤◌, Bool, true, false, List, Option, Some, None, IsSome, is_some, ◌&&◌}
use Rattle.console_port.specs.Prelude.{World, Refusal, fault_of}
use Rattle.mic_clock.specs.declared.counts.Counts.{Counts}
use Rattle.mic_clock.specs.declared.end.End.{End}
use Rattle.mic_clock.specs.declared.end.End.TheVariants as ends
use Rattle.mic_clock.specs.Meaning.{Meaning, Done, Refused}
use Rattle.mic_clock.specs.Run.{MicroRun, number_of, since, completes, end_by, word_at}

-- The end before a cycle, if one comes: at MPC 0x0FF by Halt, at 0x0FE by Err, and elsewhere by Adrift once 1,024 cycles came to no boundary.
pub record EndsBefore (mpc : ℕ) (c : Counts) (end : Option End) : Type 0 where
  pub halt : mpc ≡ 0x0FF → end ≡ Some ends.Halt
  pub err : mpc ≡ 0x0FE → end ≡ Some ends.Err
  pub adrift : mpc ≢ 0x0FF → mpc ≢ 0x0FE → 1024 ≤ since c → end ≡ Some ends.Adrift
  pub none : mpc ≢ 0x0FF → mpc ≢ 0x0FE → since c + 1 ≤ 1024 → end ≡ None

-- An end counts no cycle. By Halt or Err it completes an instruction, where one had begun at a boundary.
pub record CountsEnd (old : Counts) (e : End) (new : Counts) : Type 0 where
  pub cycles : new.cycles ≡ old.cycles
  pub stalls : new.stalls ≡ old.stalls
  pub boundary : new.boundary ≡ old.boundary
  pub instructions : new.instructions ≡ old.instructions + number_of (completes e && is_some old.boundary)

module _ {State : Type 0} (m : Meaning State) where
  -- A clocked cycle counts, as a stall too where it was one. Each boundary but the first completes an instruction.
  pub record CountsCycle (old : Counts) (stalled : Bool) (s : State) (new : Counts) : Type 0 where
    pub cycles : new.cycles ≡ old.cycles + 1
    pub stalls : new.stalls ≡ old.stalls + number_of stalled
    pub instructions : new.instructions ≡ old.instructions + number_of (m.is_boundary s && is_some old.boundary)
    pub between : m.is_boundary s ≡ false → new.boundary ≡ old.boundary
    pub boundary : m.is_boundary s ≡ true →
        new.boundary ≡ Some (record { cycles = new.cycles; at = m.address s; sp = (m.registers s).sp; lv = (m.registers s).lv })

  -- A run ends where it stands.
  pub record EndsAt (r : MicroRun State) (e : End) (q : MicroRun State) : Type 0 where
    pub state : q.state ≡ r.state
    pub world : q.world ≡ r.world
    pub end : q.end ≡ Some e

  -- A microstep leads a run to this state and this world.
  pub record StepsTo (r : MicroRun State) (stalled : Bool) (s : State) (w : World) (q : MicroRun State) : Type 0 where
    pub state : q.state ≡ s
    pub world : q.world ≡ w
    pub end : q.end ≡ None
    pub counts : CountsCycle r.counts stalled s q.counts

  module _ (words : List ℕ) where
    -- One turn of a run without the test of a bound: an ended run stays; else it ends before a cycle; else its
    -- microstep is refused, which ends it uncounted; else the microstep is done.
    pub record IsTurn (r q : MicroRun State) : Type 0 where
      pub ended : IsSome r.end → q ≡ r
      pub ends : r.end ≡ None → (e : End) → EndsBefore (m.registers r.state).mpc r.counts (Some e) → EndsAt r e q × CountsEnd r.counts e q.counts
      pub refused : r.end ≡ None → EndsBefore (m.registers r.state).mpc r.counts None →
          (why : Refusal) → m.step (word_at m words r.state) r.state r.world ≡ Refused why → EndsAt r (end_by (fault_of why)) q × (q.counts ≡ r.counts)
      pub done : r.end ≡ None → EndsBefore (m.registers r.state).mpc r.counts None →
          (s : State) (w : World) → m.step (word_at m words r.state) r.state r.world ≡ Done s w →
          StepsTo r (m.drives (word_at m words r.state) r.state).stalled s w q
