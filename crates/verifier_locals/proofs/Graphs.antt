-- The graph of the reached instructions, and the paths that carry a local as unset.
use Rattle.verifier_locals.proofs.Common.{◌≡◌, ℕ, ◌+◌, ◌<◌, inl, inr, Option, Some, None, List, length, ◌∙◌, sym, subst, slice_get, none-some, Row, size_of}
use Rattle.verifier_locals.proofs.Common.{ImageView, Kept, Node, Arrival, HasRow, GoesOn, kept_at, IsChecked, IsClosed, IsNodeOf, IsNodeAt}

-- where a checked instruction's unit goes on is inside the text
pub way_inside : (image : ImageView) (a : Arrival) (r : Row) (need to : ℕ) → IsChecked image a r need → GoesOn r.flow a.at (a.at + size_of r) to → to < length image.text
way_inside image a r need to h (inl on) = rw on.1 (h.next on.0)
way_inside image a r need to h (inr off) = rw off.2 (h.jump off.0 off.1)

-- the node of a kept address's instruction
pub node_here : (image : ImageView) (seen : List (Option Kept)) (at : ℕ) (here : Kept) (r : Row) (node : Node) → IsClosed image seen → slice_get seen at ≡ Some (Some here) → HasRow image.text at r → IsNodeOf at r node →
    IsNodeAt image seen at node
node_here image seen at here r node closed is has h =
    let d = closed.checked at here is in
    let same : r ≡ d.0 = d.2.alone r has in
    record {
      here = λ k q is_k has_q. subst (λ (x : Row). IsNodeOf at x node) (same ∙ sym (d.2.alone q has_q)) h;
      inside = λ to leads.
          way_inside image (kept_at here at) r d.1 to (subst (λ (x : Row). IsChecked image (kept_at here at) x d.1) (sym same) d.2) (h.only to leads);
    }

-- nothing is reached at this address
pub node_nowhere : (image : ImageView) (seen : List (Option Kept)) (at : ℕ) → slice_get seen at ≡ Some None → IsNodeAt image seen at (record { next = None; jump = None; reads = None; stores = None })
node_nowhere image seen at none = record {
  here = λ k r is has. absurd (differ k is);
  inside = λ to leads. elim leads [ inl on ↦ absurd (none-some to on) | inr off ↦ absurd (none-some to off) ];
}
  where
    differ : (k : Kept) → slice_get seen at ≡ Some (Some k) → ⊥
    differ k is = cc
