-- A list of addresses that computing shows to be the chosen placement.
use Rattle.std.specs.Prelude.{◌≡◌, ℕ, ◌+◌, ◌==◌, Bool, true, not, ◌&&◌, List, [], ◌∷◌, Option, Some, None, length, map, take, slice_index, nat_lt}
use Rattle.std.specs.List.{list_any, list_all}
use Rattle.store_placement.specs.Demands.{Demands}
use Rattle.store_placement.specs.First.{below}
use Rattle.store_placement.specs.Forced.{forced, all_forced}
use Rattle.store_placement.specs.Chosen.{open_pairs, free_lows, free_addresses, singles, before_singles}

-- no number stands twice
abbrev pub are_different : List ℕ → Bool
are_different [] = true
are_different (a ∷ others) = not (list_any (λ b. b == a) others) && are_different others

abbrev pub is_kept : Option ℕ → ℕ → Bool
is_kept None address = true
is_kept (Some a) address = address == a

pub record IsListed (d : Demands) (addresses : List ℕ) : Type 0 where
  pub count : length addresses ≡ length d.fixed
  pub in_store : list_all (λ a. nat_lt a 512) addresses ≡ true
  pub different : are_different addresses ≡ true
  pub forced_kept : list_all (λ s. is_kept (forced d.fixed d.pairs s) (slice_index addresses s)) (below (length d.fixed)) ≡ true
  pub pairs_kept : list_all (λ p. slice_index addresses p.yes == slice_index addresses p.no + 256) d.pairs ≡ true
  pub lows : let pairs = open_pairs d.fixed d.pairs in
      map (λ p. slice_index addresses p.no) pairs ≡ take (length pairs) (free_lows (all_forced d.fixed d.pairs))
  pub rest : let last = singles d.fixed d.pairs in
      map (slice_index addresses) last ≡ take (length last) (free_addresses (before_singles d (slice_index addresses)))
