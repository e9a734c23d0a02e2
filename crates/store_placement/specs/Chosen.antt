-- The chosen placement: forced addresses first, then the remaining pairs, then the remaining statements, each in order and as low as there is room.
use Rattle.std.specs.Prelude.{◌≡◌, ◌<◌, ℕ, ◌+◌, ◌==◌, Bool, not, ◌&&◌, ◌||◌, if◌then◌else◌, min, is_none, List, Option, Some, None, length, map, filter, find, take, slice_index, All}
use Rattle.std.specs.List.{list_any, filter_map}
use Rattle.store_placement.specs.declared.pair.Pair.{Pair}
use Rattle.store_placement.specs.Demands.{AreWithin, Demands, fixed_at}
use Rattle.store_placement.specs.First.{below}
use Rattle.store_placement.specs.Placement.{Places}
use Rattle.store_placement.specs.Forced.{forced, all_forced, same_address}

-- a statement is placed at a
unfoldable pub is_taken : List (Option ℕ) → ℕ → Bool
is_taken placed a = list_any (λ o. same_address o (Some a)) placed

abbrev pub is_free : List (Option ℕ) → ℕ → Bool
is_free placed a = not (is_taken placed a)

abbrev pub is_free_low : List (Option ℕ) → ℕ → Bool
is_free_low placed a = is_free placed a && is_free placed (a + 256)

-- the low addresses that are free and whose partners are free too, lowest first
unfoldable pub free_lows : List (Option ℕ) → List ℕ
free_lows placed = filter (is_free_low placed) (below 256)

-- the free addresses, lowest first
unfoldable pub free_addresses : List (Option ℕ) → List ℕ
free_addresses placed = filter (is_free placed) (below 512)

-- s is the lower target of the pair, and neither target is fixed
abbrev pub is_opened_by : List (Option ℕ) → ℕ → Pair → Bool
is_opened_by fixed s p = (min p.yes p.no == s) && (is_none (fixed_at fixed p.yes) && is_none (fixed_at fixed p.no))

abbrev pub opened_by : List (Option ℕ) → List Pair → ℕ → Option Pair
opened_by fixed pairs s = find (is_opened_by fixed s) pairs

-- the pairs that no fixed statement places, in the order of their lower targets
unfoldable pub open_pairs : List (Option ℕ) → List Pair → List Pair
open_pairs fixed pairs = filter_map (opened_by fixed pairs) (below (length fixed))

-- the statement is not fixed and stands in no pair
unfoldable pub is_single : List (Option ℕ) → List Pair → ℕ → Bool
is_single fixed pairs s = is_none (fixed_at fixed s) && not (list_any (λ p. (p.yes == s) || (p.no == s)) pairs)

unfoldable pub singles : List (Option ℕ) → List Pair → List ℕ
singles fixed pairs = filter (is_single fixed pairs) (below (length fixed))

-- the addresses of all statements but the singles
unfoldable pub before_singles : Demands → (ℕ → ℕ) → List (Option ℕ)
before_singles d address = map (λ s. if is_single d.fixed d.pairs s then None else Some (address s)) (below (length d.fixed))

pub record IsChosen (d : Demands) (address : ℕ → ℕ) : Type 0 where
  pub keeps_forced : (s a : ℕ) → s < length d.fixed → forced d.fixed d.pairs s ≡ Some a → address s ≡ a
  pub lows : let pairs = open_pairs d.fixed d.pairs in
      map (λ p. address p.no) pairs ≡ take (length pairs) (free_lows (all_forced d.fixed d.pairs))
  pub highs : All (λ p. address p.yes ≡ address p.no + 256) (open_pairs d.fixed d.pairs)
  pub rest : let last = singles d.fixed d.pairs in
      map address last ≡ take (length last) (free_addresses (before_singles d address))

-- the addresses of the statements in order are the chosen placement
pub record IsChosenList (d : Demands) (addresses : List ℕ) : Type 0 where
  pub places : Places d addresses
  pub chosen : IsChosen d (slice_index addresses)

-- there is at most one chosen placement
abbrev pub HasOneChoice : Demands → Type 0
HasOneChoice d = (xs ys : List ℕ) → AreWithin d.fixed d.pairs → IsChosenList d xs → IsChosenList d ys → xs ≡ ys
