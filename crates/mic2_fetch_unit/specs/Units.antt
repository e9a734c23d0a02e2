-- The fetch unit that stands at a place of memory, as one folded value: its edge and its jump lead to another such value.
use Rattle.std.specs.Prelude.{ℕ, zero, suc, ◌+◌, ◌-◌, ◌/◌, ◌%◌, nat_le, if◌then◌else◌, List, [], ◌∷◌, Some, None, slice_index}
use Rattle.console_port.specs.Prelude.{byte_in}
use Rattle.mic2_fetch_unit.specs.FetchUnit.{Prefetch}

-- this many bytes from a byte address on
abbrev pub bytes_from : List ℕ → ℕ → ℕ → List ℕ
bytes_from words p zero = []
bytes_from words p (suc n) = byte_in words p ∷ bytes_from words (p + 1) n

-- the unit that has this many of the bytes from p on
unfoldable pub unit_at : List ℕ → ℕ → ℕ → Prefetch
unit_at words p have =
    record {
      bytes = bytes_from words p have;
      imar = (p + have) / 4;
      skip = (p + have) % 4;
      pending = if nat_le have 2 then Some (slice_index words ((p + have) / 4)) else None;
    }

-- how many bytes it has after an edge that takes t
unfoldable pub have_after : ℕ → ℕ → ℕ → ℕ
have_after p have t = if nat_le have 2 then have - t + (4 - (p + have) % 4) else have - t

-- the byte this many places on from p
abbrev pub text_from : List ℕ → ℕ → ℕ → ℕ
text_from words p zero = byte_in words p
text_from words p (suc k) = byte_in words (p + suc k)
