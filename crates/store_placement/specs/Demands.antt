-- What a placement has to keep: for each statement its fixed address or none, and the pairs of a conditional's targets.
use Rattle.std.specs.Prelude.{◌≡◌, ◌<◌, ◌≤◌, ℕ, ◌==◌, Bool, ◌&&◌, List, Option, Some, None, is_some, length, slice_index_or, All, count_by}
use Rattle.std.specs.Set.{distinct_count}
use Rattle.store_placement.specs.declared.pair.Pair.{Pair}

pub record Demands : Type 0 where
  pub fixed : List (Option ℕ)
  pub pairs : List Pair

abbrev pub demands : List (Option ℕ) → List Pair → Demands
demands fixed pairs = record { fixed = fixed; pairs = pairs }

-- the address that the statement is fixed at
abbrev pub fixed_at : List (Option ℕ) → ℕ → Option ℕ
fixed_at fixed s = slice_index_or fixed s None

-- statements are fixed at addresses of the store
abbrev pub AreFixedInside : List (Option ℕ) → Type 0
AreFixedInside fixed = (s a : ℕ) → fixed_at fixed s ≡ Some a → a < 512

-- both targets are statements
abbrev pub IsOfStatements : ℕ → Pair → Type 0
IsOfStatements count p = (p.yes < count) × (p.no < count)

-- at most 512 statements, fixed inside the store, and pairs of them
pub record AreWithin (fixed : List (Option ℕ)) (pairs : List Pair) : Type 0 where
  pub count : length fixed ≤ 512
  pub addresses : AreFixedInside fixed
  pub targets : All (IsOfStatements (length fixed)) pairs

abbrev pub same_pair : Pair → Pair → Bool
same_pair p q = (p.yes == q.yes) && (p.no == q.no)

-- how many statements are fixed
abbrev pub fixed_count : Demands → ℕ
fixed_count d = count_by (λ o. is_some o) d.fixed

-- how many different pairs there are
abbrev pub pair_count : Demands → ℕ
pair_count d = distinct_count same_pair d.pairs
