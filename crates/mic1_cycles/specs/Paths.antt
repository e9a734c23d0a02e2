-- The moment that a path stands for, and where a cycle of it leads.
use Rattle.std.specs.Prelude.{◌≡◌, ℕ, Bool, Some, length}
use Rattle.mic1_cycles.specs.Common.{Refusal, StackLimit, OutOfMap, Mem, Placed, Refused, access_refusal, Ports, microstep, Environment}
use Rattle.mic1_cycles.specs.declared.path.Path.{Path}
use Rattle.mic1_cycles.specs.declared.refusal.Stop.{Stop}
use Rattle.mic1_cycles.specs.declared.refusal.Stop.TheVariants as stops
use Rattle.mic1_cycles.specs.Symbols.{HasSigns, micro_of}
use Rattle.mic1_cycles.specs.Trail.{Trail, world_of}
use Rattle.mic1_cycles.specs.Cycle.{LeadsTo}
use Rattle.mic1_cycles.specs.Questions.{AreAnswered}

abbrev pub trail_of : Path → Trail
trail_of p = record { writes = p.writes.items; taken = p.taken; given = p.given.items }

-- the bytes of the path have their signs, and its answers are true
pub record IsPath (e : Environment) (p : Path) : Type 0 where
  pub signs : HasSigns e.word p.symbols
  pub answered : AreAnswered e p.answers.items

-- the statement's microstep leads what the first path stands for to what the second stands for
pub record LeadsOn (e : Environment) (s : Placed) (p q : Path) : Type 0 where
  pub leads : LeadsTo e.word e.start s p.symbols (trail_of p) q.symbols (trail_of q)
  pub path : IsPath e q

-- why an access at this address is refused
abbrev pub refusal_of : Stop → ℕ → Refusal
refusal_of stops.Limit at = StackLimit at
refusal_of stops.OutOfMap at = OutOfMap at

-- the accesses of a cycle are refused
pub record AreRefused (e : Environment) (mem : Mem) (fetch : Bool) (why : Stop) (p : Ports) : Type 0 where
  pub at : ℕ
  pub is : access_refusal (length e.start.words) mem fetch p ≡ Some (refusal_of why at)

-- the statement's microstep is refused where the path stands
pub record MeetsRefusal (e : Environment) (s : Placed) (why : Stop) (p : Path) : Type 0 where
  pub at : ℕ
  pub step : (entry : ℕ) (clocked : Bool) →
      microstep s (micro_of e.word entry clocked p.symbols) (world_of e.word e.start (trail_of p)) ≡ Refused (refusal_of why at)
