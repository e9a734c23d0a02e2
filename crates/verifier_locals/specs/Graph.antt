-- The graph of the reached instructions: what the search for locals that are not set goes over.
use Rattle.std.specs.Prelude.{◌≡◌, ◌≢◌, ℕ, ◌+◌, ◌<◌, ◌⊎◌, List, length, slice_get, Option, Some}
use Rattle.ijvm_instr.specs.declared.row.Row.{Row}
use Rattle.ijvm_instr.specs.Prelude.{size_of}
use Rattle.ijvm_image.specs.Prelude.{ImageView}
use Rattle.verifier_reach.specs.declared.kept.Kept.{Kept}
use Rattle.verifier_locals.specs.declared.graph.Node.{Node}
use Rattle.verifier_facts.specs.Prelude.{HasRow, GoesOn}

abbrev pub LeadsTo : Node → ℕ → Type 0
LeadsTo node to = (node.next ≡ Some to) ⊎ (node.jump ≡ Some to)

-- the node has what the row of the instruction at this address has
pub record IsNodeOf (at : ℕ) (r : Row) (node : Node) : Type 0 where
  pub reads : node.reads ≡ r.reads
  pub stores : node.stores ≡ r.stores
  pub leads : (to : ℕ) → GoesOn r.flow at (at + size_of r) to → LeadsTo node to
  pub only : (to : ℕ) → LeadsTo node to → GoesOn r.flow at (at + size_of r) to

pub record IsNodeAt (image : ImageView) (seen : List (Option Kept)) (at : ℕ) (node : Node) : Type 0 where
  pub here : (k : Kept) (r : Row) → slice_get seen at ≡ Some (Some k) → HasRow image.text at r → IsNodeOf at r node
  pub inside : (to : ℕ) → LeadsTo node to → to < length image.text

pub record IsGraph (image : ImageView) (seen : List (Option Kept)) (graph : List Node) : Type 0 where
  pub long : length graph ≡ length image.text
  pub nodes : (at : ℕ) (node : Node) → slice_get graph at ≡ Some node → IsNodeAt image seen at node

-- no node leads out of the graph
abbrev pub IsInside : List Node → Type 0
IsInside graph = (at to : ℕ) (node : Node) → slice_get graph at ≡ Some node → LeadsTo node to → to < length graph

-- a way in the graph from a start to this address that passes no store to the local
pub data Carries (graph : List Node) (start k : ℕ) : ℕ → Type 0 where
  Begin : Carries graph start k start
  Pass : (at to : ℕ) (node : Node) → Carries graph start k at → slice_get graph at ≡ Some node →
      node.stores ≢ Some k → LeadsTo node to → Carries graph start k to
