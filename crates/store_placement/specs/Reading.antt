-- Computes the addresses of the chosen placement (`IsChosenList` of `Chosen`), as lists: forced ones, then those of the pairs, then the rest.
use Rattle.std.specs.Prelude.{ℕ, ◌+◌, ◌==◌, if◌then◌else◌, List, [], ◌∷◌, Option, Some, None, length, map, slice_index_or}
use Rattle.std.specs.Option.{option_or}
use Rattle.store_placement.specs.declared.pair.Pair.{Pair}
use Rattle.store_placement.specs.First.{below}

-- where the pairs stand at these low addresses, one by one, the address of s
abbrev pub pair_address : List Pair → List ℕ → ℕ → Option ℕ
pair_address [] lows s = None
pair_address (p ∷ ps) [] s = None
pair_address (p ∷ ps) (low ∷ lows) s =
    if p.no == s then Some low else if p.yes == s then Some (low + 256) else pair_address ps lows s

-- forced addresses, and those of the pairs
unfoldable pub with_pairs : List (Option ℕ) → List Pair → List ℕ → List (Option ℕ)
with_pairs forced pairs lows =
    map (λ s. option_or (slice_index_or forced s None) (pair_address pairs lows s)) (below (length forced))

-- the statements that have no address yet take the free ones, one by one
abbrev pub with_free : List (Option ℕ) → List ℕ → List ℕ
with_free [] free = []
with_free (Some a ∷ placed) free = a ∷ with_free placed free
with_free (None ∷ placed) [] = []
with_free (None ∷ placed) (a ∷ free) = a ∷ with_free placed free
