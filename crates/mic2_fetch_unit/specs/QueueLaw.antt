-- What a symbolic run of a machine with Mic-2's fetch unit needs of it.
use Rattle.std.specs.Prelude.{◌≡◌, ℕ, ◌+◌, ◌<◌, ◌≤◌, List, length, slice_index, Bool, true, ◌||◌, if◌then◌else◌, None}
use Rattle.mic2_fetch_unit.specs.FetchUnit.{Prefetch, edge, jump, edge_refusal, jump_refusal, at_start}
use Rattle.mic2_fetch_unit.specs.Place.{StandsAt}
use Rattle.mic2_fetch_unit.specs.Units.{unit_at, have_after, text_from}
use Rattle.mic2_fetch_unit.specs.Held.{Held, Bounds, IsHeld, is_enough, held_after, Lack, IsWait, held_waited}

-- below the stack the words are those of `origin`
abbrev pub IsKept : List ℕ → List ℕ → Type 0
IsKept origin words = (at : ℕ) → at < 0x8000 → slice_index words at ≡ slice_index origin at

pub record QueueLaw : Type 0 where
  -- a unit stands at a place exactly where it is the folded one there
  pub there : (words : List ℕ) (p : ℕ) (u : Prefetch) → StandsAt words p u → u ≡ unit_at words p (length u.bytes)
  pub bounds : (words : List ℕ) (p : ℕ) (u : Prefetch) → StandsAt words p u → 2 ≤ length u.bytes → Bounds 2 p (length u.bytes)
  pub stands : (words : List ℕ) (p have : ℕ) → Bounds 2 p have → StandsAt words p (unit_at words p have)
  pub many : (words : List ℕ) (p have : ℕ) → length (unit_at words p have).bytes ≡ have
  pub front : (words : List ℕ) (p have k : ℕ) → k < have → slice_index (unit_at words p have).bytes k ≡ text_from words p k
  pub start : (words : List ℕ) → at_start (slice_index words 0) ≡ unit_at words 0 0
  -- an edge that takes t bytes, and a jump
  pub edge_stands : (origin words : List ℕ) (p have t : ℕ) → t ≤ have → have ≤ 6 → IsKept origin words → p < 0x1FF00 →
      edge words t (unit_at origin p have) ≡ unit_at origin (p + t) (have_after p have t)
  pub edge_allowed : (stack_end : ℕ) (origin : List ℕ) (p have t : ℕ) → 0x8000 ≤ stack_end → t ≤ have → have ≤ 6 → p < 0x1FF00 →
      edge_refusal stack_end t (unit_at origin p have) ≡ None
  pub jump_stands : (origin words : List ℕ) (p : ℕ) → IsKept origin words → p < 0x1FF00 → jump words p ≡ unit_at origin p 0
  pub jump_allowed : (stack_end p : ℕ) → 0x8000 ≤ stack_end → p < 0x1FF00 → jump_refusal stack_end p ≡ None
  -- what is known of the number of bytes
  pub few : (q : Held) (p have : ℕ) → IsHeld q p have → have ≤ 6
  pub enough : (d : ℕ) (q : Held) (p have : ℕ) → is_enough d q ≡ true → IsHeld q p have → d ≤ have
  pub after_edge : (t : ℕ) (q : Held) (p have : ℕ) → is_enough t q ≡ true → IsHeld q p have → IsHeld (held_after t q) (p + t) (have_after p have t)
  pub short : (b : Lack) (q : Held) (p d have : ℕ) → IsWait b q p d → IsHeld q p have → have < d
  pub after_wait : (b : Lack) (q : Held) (p d have : ℕ) → IsWait b q p d → IsHeld q p have → IsHeld (held_waited b) p (have_after p have 0)
  -- the two sides of an operation that name a pair or a byte name no more bytes than the operation demands
  pub wants : (pair_a pair_b byte_a byte_b : Bool) →
      ((if pair_a then 2 else if byte_a then 1 else 0) ≤ (if pair_a || pair_b then 2 else if byte_a || byte_b then 1 else 0))
      × ((if pair_b then 2 else if byte_b then 1 else 0) ≤ (if pair_a || pair_b then 2 else if byte_a || byte_b then 1 else 0))
