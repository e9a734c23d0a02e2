-- A placement: any map from the statements to addresses that gives no address twice and keeps fixed addresses and pairs.
use Rattle.std.specs.Prelude.{◌≡◌, ◌<◌, ℕ, ◌+◌, List, Some, length, slice_index, All}
use Rattle.store_placement.specs.Demands.{Demands, fixed_at}

pub record IsPlacement (d : Demands) (address : ℕ → ℕ) : Type 0 where
  pub in_store : (s : ℕ) → s < length d.fixed → address s < 512
  pub apart : (s t : ℕ) → s < length d.fixed → t < length d.fixed → address s ≡ address t → s ≡ t
  pub keeps_fixed : (s a : ℕ) → fixed_at d.fixed s ≡ Some a → address s ≡ a
  pub keeps_pairs : All (λ p. address p.yes ≡ address p.no + 256) d.pairs

abbrev pub HasPlacement : Demands → Type 0
HasPlacement d = (address : ℕ → ℕ) × IsPlacement d address

-- the addresses of the statements, in order
pub record Places (d : Demands) (addresses : List ℕ) : Type 0 where
  pub count : length addresses ≡ length d.fixed
  pub places : IsPlacement d (slice_index addresses)

-- no two statements have one address
abbrev pub AreApart : List ℕ → Type 0
AreApart addresses = (s t : ℕ) → s < length addresses → t < length addresses → slice_index addresses s ≡ slice_index addresses t → s ≡ t
