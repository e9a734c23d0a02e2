-- A placement has an address for each statement.
use Rattle.mic_debugger.proofs.Common.{◌≡◌, ℕ, List, length, ◌∙◌, length-map, MalView}
use Rattle.store_placement.specs.Prelude.{Places, demands_of}

pub placed_count : (program : MalView) (placement : List ℕ) → Places (demands_of program) placement → length placement ≡ length program.statements
unfolding demands_of
placed_count program placement places = places.count ∙ length-map program.statements (λ s. s.fixed)
