-- A graph with shortcuts past the instructions that name no local and lead to only one address, and without ways to dead ends.
use Rattle.std.specs.Prelude.{◌≡◌, ℕ, List, length, slice_get, Option, Some, None}
use Rattle.ijvm_image.specs.Prelude.{ImageView}
use Rattle.verifier_reach.specs.declared.kept.Kept.{Kept}
use Rattle.verifier_locals.specs.declared.graph.Node.{Node}
use Rattle.verifier_reach.specs.Prelude.{IsClosed}
use Rattle.verifier_locals.specs.Graph.{LeadsTo, IsGraph}

-- the node names no local and leads only to this address
pub record IsPlain (node : Node) (to : ℕ) : Type 0 where
  pub leads : LeadsTo node to
  pub only : (other : ℕ) → LeadsTo node other → other ≡ to
  pub reads : node.reads ≡ None
  pub stores : node.stores ≡ None

-- a node's way to the next address, or else its jump
abbrev pub first_way : Option ℕ → Option ℕ → Option ℕ
first_way None jump = jump
first_way (Some next) jump = Some next

-- a dead end: the node reads no local and leads nowhere
pub record IsEnd (node : Node) : Type 0 where
  pub next : node.next ≡ None
  pub jump : node.jump ≡ None
  pub reads : node.reads ≡ None

abbrev pub IsEndAt : List Node → ℕ → Type 0
IsEndAt graph at = (node : Node) × (slice_get graph at ≡ Some node) × IsEnd node

-- a way of plain nodes leads from the second address to the first
pub data Skips (graph : List Node) (to : ℕ) : ℕ → Type 0 where
  Stay : Skips graph to to
  Skip : (at next : ℕ) (node : Node) → slice_get graph at ≡ Some node → IsPlain node next → Skips graph to next → Skips graph to at

-- the first way, past plain nodes alone, is the second, or comes to a dead end
abbrev pub IsPast : List Node → Option ℕ → Option ℕ → Type 0
IsPast graph None None = Unit {0}
IsPast graph None (Some to) = ⊥
IsPast graph (Some at) None = (to : ℕ) × Skips graph to at × IsEndAt graph to
IsPast graph (Some at) (Some to) = Skips graph to at

-- the node, with ways past plain nodes, and without those to dead ends
pub record IsShortOf (graph : List Node) (node new : Node) : Type 0 where
  pub reads : new.reads ≡ node.reads
  pub stores : new.stores ≡ node.stores
  pub next : IsPast graph node.next new.next
  pub jump : IsPast graph node.jump new.jump

pub record IsShort (graph short : List Node) : Type 0 where
  pub long : length short ≡ length graph
  pub each : (at : ℕ) (node new : Node) → slice_get graph at ≡ Some node → slice_get short at ≡ Some new → IsShortOf graph node new

-- a graph of the image's reached instructions, with shortcuts, and then with those that these made
pub record IsShortGraph (image : ImageView) (short : List Node) : Type 0 where
  pub seen : List (Option Kept)
  pub closed : IsClosed image seen
  pub graph : List Node
  pub is_graph : IsGraph image seen graph
  pub once : List Node
  pub is_once : IsShort graph once
  pub is_short : IsShort once short
