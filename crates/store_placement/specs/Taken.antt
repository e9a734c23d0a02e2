-- Marks of the addresses that are taken.
use Rattle.std.specs.Prelude.{◌≡◌, ◌<◌, ℕ, Bool, false, not, ◌||◌, List, Option, Some, None, nat_lt, slice_index_or}
use Rattle.std.specs.List.{list_any}
use Rattle.store_placement.specs.declared.pair.Pair.{Pair}
use Rattle.store_placement.specs.Chosen.{is_taken}
use Rattle.store_placement.specs.Demands.{fixed_at}
use Rattle.store_placement.specs.Forced.{same_address}
use Rattle.store_placement.specs.Refusals.{are_split}

-- whether the address is marked
abbrev pub is_marked : List Bool → ℕ → Bool
is_marked taken a = slice_index_or taken a false

-- an address of the store is marked where a statement is placed there
abbrev pub AreTaken : List (Option ℕ) → List Bool → Type 0
AreTaken placed taken = (a : ℕ) → a < 512 → is_marked taken a ≡ is_taken placed a

-- the address is marked, or outside of the store
abbrev pub may_collide : List Bool → Option ℕ → Bool
may_collide taken None = false
may_collide taken (Some a) = not (nat_lt a 512) || is_marked taken a

-- the statements are placed at one address
abbrev pub share_address : List (Option ℕ) → ℕ → ℕ → Bool
share_address placed s t = same_address (fixed_at placed s) (fixed_at placed t)

-- a pair is fixed apart
abbrev pub has_split : List (Option ℕ) → List Pair → Bool
has_split fixed pairs = list_any (λ p. are_split (fixed_at fixed p.yes) (fixed_at fixed p.no)) pairs
