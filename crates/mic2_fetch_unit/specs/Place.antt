-- Where a fetch unit stands in memory: a byte address, which the unit itself does not know.
use Rattle.std.specs.Prelude.{◌≡◌, ℕ, ◌+◌, ◌*◌, ◌/◌, ◌<◌, List, length, slice_index, IsSome, IfSome, ◌≤◌, ◌^◌}
use Rattle.console_port.specs.Prelude.{byte_in}
use Rattle.mic2_fetch_unit.specs.FetchUnit.{Prefetch, IsUnit, edge}

-- a unit stands at p: its bytes are the memory's from p on, and it goes on after them
pub record StandsAt (words : List ℕ) (p : ℕ) (u : Prefetch) : Type 0 where
  pub unit : IsUnit u
  pub bytes : (k : ℕ) → k < length u.bytes → slice_index u.bytes k ≡ byte_in words (p + k)
  pub onward : 4 * u.imar + u.skip ≡ p + length u.bytes
  pub pending : IfSome u.pending (λ word. word ≡ slice_index words u.imar)

-- the words that a unit at p holds are in both memories
pub record HoldsSame (words words' : List ℕ) (p : ℕ) (u : Prefetch) : Type 0 where
  pub bytes : (k : ℕ) → k < length u.bytes → slice_index words' ((p + k) / 4) ≡ slice_index words ((p + k) / 4)
  pub pending : IsSome u.pending → slice_index words' u.imar ≡ slice_index words u.imar

-- after an edge that takes this many bytes, a unit at p stands this many bytes on, also where that cycle's write changed words that it does not hold
abbrev pub MovesOn : List ℕ → List ℕ → ℕ → ℕ → Prefetch → Type 0
MovesOn words words' p taken u = p < 2 ^ 32 → taken ≤ length u.bytes → StandsAt words p u → HoldsSame words words' p u →
    StandsAt words' (p + taken) (edge words' taken u)
