-- Why constraints have no placement, and in which order that is tested.
use Rattle.std.specs.Prelude.{◌<◌, ℕ, ◌+◌, ◌==◌, Bool, false, not, ◌&&◌, ◌||◌, if◌then◌else◌, nat_lt, List, Option, Some, None, length}
use Rattle.std.specs.List.{list_any}
use Rattle.store_placement.specs.declared.pair.Pair.{Pair}
use Rattle.store_placement.specs.declared.refusal.PlaceError.{PlaceError}
use Rattle.store_placement.specs.declared.refusal.PlaceError.TheVariants as errors
use Rattle.store_placement.specs.Demands.{Demands, fixed_at, same_pair}
use Rattle.store_placement.specs.First.{Never, IsFirst, NeverTwo, IsFirstTwo}
use Rattle.store_placement.specs.Forced.{forced, all_forced, same_address}
use Rattle.store_placement.specs.Chosen.{open_pairs, free_lows}

abbrev pub stands_in : ℕ → Pair → Bool
stands_in s p = (p.yes == s) || (p.no == s)

abbrev pub is_true_target : List Pair → ℕ → Bool
is_true_target pairs s = list_any (λ p. p.yes == s) pairs

abbrev pub is_false_target : List Pair → ℕ → Bool
is_false_target pairs s = list_any (λ p. p.no == s) pairs

-- the statement stands in another pair than p
abbrev pub stands_beside : List Pair → ℕ → Pair → Bool
stands_beside pairs s p = list_any (λ q. stands_in s q && not (same_pair p q)) pairs

unfoldable pub stands_twice : List Pair → ℕ → Bool
stands_twice pairs s = list_any (λ p. stands_in s p && stands_beside pairs s p) pairs

-- the statement stands in two different pairs, or in both roles
unfoldable pub clashes : List Pair → ℕ → Bool
clashes pairs s = stands_twice pairs s || (is_true_target pairs s && is_false_target pairs s)

-- the statement is fixed below 256 as a true target, or at 256 or above as a false target
abbrev pub is_wrong : List Pair → ℕ → Option ℕ → Bool
is_wrong pairs s None = false
is_wrong pairs s (Some a) = if nat_lt a 256 then is_true_target pairs s else is_false_target pairs s

unfoldable pub in_wrong_half : List (Option ℕ) → List Pair → ℕ → Bool
in_wrong_half fixed pairs s = is_wrong pairs s (fixed_at fixed s)

-- both targets are fixed, and the addresses are not 256 apart
abbrev pub are_split : Option ℕ → Option ℕ → Bool
are_split (Some a) (Some b) = not (a == b + 256)
are_split (Some a) None = false
are_split None b = false

abbrev pub is_pair_of : ℕ → ℕ → Pair → Bool
is_pair_of s t p = (p.yes == s) && (p.no == t) || (p.yes == t) && (p.no == s)

-- s and t are the targets of a pair that is fixed so
unfoldable pub split_apart : List (Option ℕ) → List Pair → ℕ → ℕ → Bool
split_apart fixed pairs s t =
    list_any (λ p. is_pair_of s t p && are_split (fixed_at fixed p.yes) (fixed_at fixed p.no)) pairs

-- the statements are forced to one address, or a pair of them is fixed apart
unfoldable pub collide : List (Option ℕ) → List Pair → ℕ → ℕ → Bool
collide fixed pairs s t =
    same_address (forced fixed pairs s) (forced fixed pairs t) || split_apart fixed pairs s t

-- each refusal, where no earlier one holds
abbrev pub Refuses : Demands → PlaceError → Type 0
Refuses d (errors.PairClash s) = IsFirst (clashes d.pairs) (length d.fixed) s
Refuses d (errors.FixedWrongHalf s) =
    Never (clashes d.pairs) (length d.fixed)
    × IsFirst (in_wrong_half d.fixed d.pairs) (length d.fixed) s
Refuses d (errors.FixedClash s t) =
    Never (clashes d.pairs) (length d.fixed)
    × Never (in_wrong_half d.fixed d.pairs) (length d.fixed)
    × IsFirstTwo (collide d.fixed d.pairs) (length d.fixed) s t
Refuses d errors.NoRoom =
    Never (clashes d.pairs) (length d.fixed)
    × Never (in_wrong_half d.fixed d.pairs) (length d.fixed)
    × NeverTwo (collide d.fixed d.pairs) (length d.fixed)
    × (length (free_lows (all_forced d.fixed d.pairs)) < length (open_pairs d.fixed d.pairs))
