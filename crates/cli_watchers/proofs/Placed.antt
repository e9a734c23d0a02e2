-- The statements of a placed program.
use Rattle.cli_watchers.proofs.Common.{◌≡◌, ℕ, List, length, ◌∙◌, length-map, MalView}
use Rattle.store_placement.specs.Prelude.{Places, demands_of}

-- each has an address
pub placed_count : (p : MalView) (addresses : List ℕ) → Places (demands_of p) addresses → length addresses ≡ length p.statements
unfolding demands_of
placed_count p addresses placed = placed.count ∙ length-map p.statements (λ s. s.fixed)
