-- Carries that go on from slice to slice in rounds.
use Rattle.std.specs.Prelude.{◌≡◌, ℕ, ◌-◌, ◌<◌, nat_le, min, max, if◌then◌else◌}
use Rattle.std.specs.Int.{bit_at}
use Rattle.mic_alu.specs.declared.slices.Handed.{Handed}

-- what the slice this many places before slice i hands on, and 0 for the first ones
abbrev pub before : ℕ → (ℕ → ℕ) → ℕ → ℕ
before reach carry i = if nat_le reach i then carry (i - reach) else 0

-- Each slice hands on the carry that is made within `reach` slices up to it, or the one from before them that passes through all of them.
-- So the first `reach` slices hand on what is made.
pub record AreHandedOn (reach made passed : ℕ) (carry : ℕ → ℕ) : Type 0 where
  pub each : (i : ℕ) → i < 32 → carry i ≡ max (bit_at made i) (min (bit_at passed i) (before reach carry i))

-- this holds of what a stretch of slices hands on
abbrev pub HandsOn : ℕ → Handed → (ℕ → ℕ) → Type 0
HandsOn reach handed carry = AreHandedOn reach handed.made handed.passed carry
