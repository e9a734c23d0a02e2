-- Accesses that are refused, and the cycles that they end.
use Rattle.std.specs.Prelude.{◌≡◌, ◌≢◌, ◌<◌, ◌≤◌, ◌/◌, ℕ, Bool, Some, None, length}
use Rattle.mic1_cycles.specs.Common.{World, Refusal, StackLimit, OutOfMap, console_at, read_refusal, write_refusal, fetch_refusal, STACK_SIDE, Placed, Refused}
use Rattle.mic1_cycles.specs.Common.{access_refusal, microstep}
use Rattle.mic1_cycles.specs.declared.symbols.Symbols.{Symbols}
use Rattle.mic1_cycles.specs.Symbols.{assigned_symbols, micro_of, HasSigns}
use Rattle.mic1_cycles.specs.Trail.{Trail, world_of}
use Rattle.mic1_cycles.specs.Cycle.{IsComputed, ports_of}

-- A cycle of symbols is refused where its accesses are.
abbrev pub StopsLaw : Type 0
StopsLaw =
    (word : ℕ → ℕ) (start : World) (p : Placed) (empty x v : ℕ) (s : Symbols) (t : Trail) (why : Refusal) →
    HasSigns word s → IsComputed word start p.part empty x v s →
    access_refusal (length start.words) p.part.mem p.part.fetch (ports_of word start (assigned_symbols p.part.dests v s)) ≡ Some why →
    (entry : ℕ) (clocked : Bool) → microstep p (micro_of word entry clocked s) (world_of word start t) ≡ Refused why

pub record RefusalLaws : Type 0 where
  pub stops : StopsLaw
  pub reads : (top at : ℕ) → top ≤ at → at ≢ console_at → read_refusal top at ≡ Some (OutOfMap at)
  pub limits : (top at : ℕ) → top ≤ at → at ≢ console_at → at < STACK_SIDE → write_refusal top at ≡ Some (StackLimit at)
  pub writes : (top at : ℕ) → top ≤ at → at ≢ console_at → STACK_SIDE ≤ at → write_refusal top at ≡ Some (OutOfMap at)
  pub fetches : (top at : ℕ) → top ≤ at / 4 → fetch_refusal top at ≡ Some (OutOfMap (at / 4))
  -- what is not refused
  pub read_inside : (top at : ℕ) → at < top → read_refusal top at ≡ None
  pub read_console : (top at : ℕ) → top ≤ console_at → at ≡ console_at → read_refusal top at ≡ None
  pub write_inside : (top at : ℕ) → at < top → write_refusal top at ≡ None
  pub write_console : (top at : ℕ) → top ≤ console_at → at ≡ console_at → write_refusal top at ≡ None
