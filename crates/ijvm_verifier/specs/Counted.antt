-- The locals that main names, as far as the count has come.
use Rattle.std.specs.Prelude.{◌≡◌, ℕ, ◌+◌, ◌<◌, ◌⊎◌, None, Some}
use Rattle.ijvm_instr.specs.declared.row.Row.{Row}
use Rattle.ijvm_image.specs.Prelude.{ImageView}
use Rattle.verifier_locals.specs.declared.graph.Node.{Node}
use Rattle.verifier_facts.specs.Prelude.{Arrival, HasRow, Reached, Names, MainNames}

abbrev pub NodeNames : Node → ℕ → Type 0
NodeNames node k = (node.reads ≡ Some k) ⊎ (node.stores ≡ Some k)

pub record IsCounted (image : ImageView) (n count : ℕ) : Type 0 where
  pub above : (a : Arrival) (r : Row) (k : ℕ) → Reached image a → a.at < n → HasRow image.text a.at r → a.unit ≡ None → Names r k → k < count
  pub least : (count ≡ 0) ⊎ ((k : ℕ) × MainNames image k × (count ≡ k + 1))
