-- Own locals that are set before each read.
use Rattle.std.specs.Prelude.{◌≡◌, ◌≢◌, ℕ, ◌/◌, ◌<◌, ◌≤◌, List, slice_get, Contains, Option, Some}
use Rattle.ijvm_instr.specs.declared.row.Row.{Row}
use Rattle.ijvm_image.specs.Prelude.{ImageView, params}
use Rattle.verifier_reach.specs.declared.kept.Kept.{Kept}
use Rattle.verifier_locals.specs.declared.graph.Node.{Node}
use Rattle.verifier_locals.specs.declared.unset.Wanted.{Wanted}
use Rattle.verifier_facts.specs.Prelude.{arrival, HasRow, IsOwn, Reached}

-- no path reads the method's local while it carries it as unset
abbrev pub IsSetBefore : ImageView → ℕ → ℕ → Type 0
IsSetBefore image entry k = (at d : ℕ) (r : Row) → Reached image (arrival (Some entry) at d (Some k)) → HasRow image.text at r → r.reads ≢ Some k

-- the method's own locals in the group are set before each read
abbrev pub AreSet : ImageView → Wanted → Type 0
AreSet image w = (k : ℕ) → k / 64 ≡ w.group → IsOwn image.text w.entry k → IsSetBefore image w.entry k

-- the read at this address is of an own local in this group of this method
pub record Wants (image : ImageView) (seen : List (Option Kept)) (graph : List Node) (at : ℕ) (w : Wanted) : Type 0 where
  pub here : Kept
  pub node : Node
  pub local : ℕ
  pub is_kept : slice_get seen at ≡ Some (Some here)
  pub unit_is : here.unit ≡ Some w.entry
  pub is_node : slice_get graph at ≡ Some node
  pub reads : node.reads ≡ Some local
  pub own : params image.text w.entry ≤ local
  pub group_is : w.group ≡ local / 64

-- the list has what the reads below this address want, and nothing else
pub record AreWanted (image : ImageView) (seen : List (Option Kept)) (graph : List Node) (end : ℕ) (wanted : List Wanted) : Type 0 where
  pub only : (w : Wanted) → Contains wanted w → (at : ℕ) × Wants image seen graph at w
  pub small : (w : Wanted) → Contains wanted w → w.group < 1024
  pub all : (at : ℕ) (w : Wanted) → at < end → Wants image seen graph at w → Contains wanted w
