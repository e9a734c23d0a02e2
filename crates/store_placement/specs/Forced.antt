-- The addresses that fixed statements force: their own, and those of their partners.
use Rattle.std.specs.Prelude.{ℕ, ◌+◌, ◌-◌, ◌==◌, Bool, false, if◌then◌else◌, List, [], ◌∷◌, Option, Some, None, length, map}
use Rattle.std.specs.Option.{option_map, option_or}
use Rattle.store_placement.specs.declared.pair.Pair.{Pair}
use Rattle.store_placement.specs.Demands.{fixed_at}
use Rattle.store_placement.specs.First.{below}

-- the address that the pair gives its target s, where the other target is fixed
abbrev pub given_by : List (Option ℕ) → ℕ → Pair → Option ℕ
given_by fixed s p =
    if p.yes == s then option_map (λ a. a + 256) (fixed_at fixed p.no) else
    if p.no == s then option_map (λ a. a - 256) (fixed_at fixed p.yes) else None

-- the address that a fixed partner gives s; a statement that stands in one pair has one partner
abbrev pub given : List (Option ℕ) → ℕ → List Pair → Option ℕ
given fixed s [] = None
given fixed s (p ∷ pairs) = option_or (given_by fixed s p) (given fixed s pairs)

-- a fixed statement is forced to its own address, another one to the address that its fixed partner gives it
unfoldable pub forced : List (Option ℕ) → List Pair → ℕ → Option ℕ
forced fixed pairs s = option_or (fixed_at fixed s) (given fixed s pairs)

abbrev pub same_address : Option ℕ → Option ℕ → Bool
same_address (Some a) (Some b) = a == b
same_address (Some a) None = false
same_address None b = false

-- what each statement is forced to, in order
unfoldable pub all_forced : List (Option ℕ) → List Pair → List (Option ℕ)
all_forced fixed pairs = map (forced fixed pairs) (below (length fixed))
