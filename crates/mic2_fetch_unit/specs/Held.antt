-- What is known of the number of bytes in the queue: a bound that computes, or the number itself after a jump.
use Rattle.std.specs.Prelude.{◌≡◌, ℕ, zero, suc, ◌+◌, ◌-◌, ◌%◌, ◌≤◌, ◌==◌, Bool, true, false, nat_lt, nat_le, if◌then◌else◌}

-- at least this many bytes, up to the end of a word; none, after a jump; or one, up to the end of a word
pub data Held : Type 0 where
  AtLeast : ℕ → Held
  Jumped : Held
  One : Held

pub record Bounds (n p have : ℕ) : Type 0 where
  pub least : n ≤ have
  pub few : have ≤ 6
  pub aligned : (p + have) % 4 ≡ 0

abbrev pub IsHeld : Held → ℕ → ℕ → Type 0
IsHeld (AtLeast n) p have = Bounds n p have
IsHeld Jumped p have = have ≡ 0
IsHeld One p have = (have ≡ 1) × ((p + have) % 4 ≡ 0)

-- whether this many bytes are surely available
abbrev pub is_enough : ℕ → Held → Bool
is_enough zero q = true
is_enough (suc d) (AtLeast n) = nat_le (suc d) n
is_enough (suc d) Jumped = false
is_enough (suc d) One = nat_le (suc d) 1

-- what is known after an edge that takes t bytes
abbrev pub held_after : ℕ → Held → Held
held_after t (AtLeast n) = AtLeast (if nat_le n 3 then 3 - t else n - t)
held_after t Jumped = AtLeast 1
held_after t One = AtLeast (5 - t)

-- A cycle that lacks bytes.

-- It comes right after a jump, wherever that goes (WaitsFirst), or to one of the first three bytes of a word (Waits) or to the last (WaitsLate),
-- or where one byte is available (WaitsOn).
pub data Lack : Type 0 where
  WaitsFirst : Lack
  Waits : Lack
  WaitsLate : Lack
  WaitsOn : Lack

-- this many bytes are demanded, and fewer are available
abbrev pub IsWait : Lack → Held → ℕ → ℕ → Type 0
IsWait WaitsFirst Jumped p d = nat_lt 0 d ≡ true
IsWait Waits Jumped p d = (nat_lt 0 d ≡ true) × ((p % 4 == 3) ≡ false)
IsWait WaitsLate Jumped p d = (nat_lt 0 d ≡ true) × ((p % 4 == 3) ≡ true)
IsWait WaitsOn One p d = nat_lt 1 d ≡ true
IsWait b q p d = ⊥

-- what is known after it
abbrev pub held_waited : Lack → Held
held_waited WaitsFirst = AtLeast 1
held_waited Waits = AtLeast 2
held_waited WaitsLate = One
held_waited WaitsOn = AtLeast 5
