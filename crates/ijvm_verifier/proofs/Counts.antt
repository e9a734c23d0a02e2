-- The count of main's locals.
use Rattle.ijvm_verifier.proofs.Common.{◌≡◌, ◌≢◌, ℕ, ◌+◌, ◌<◌, ◌≤◌, ◌⊎◌, inl, inr, Option, Some, None, List, length, arith, ◌∙◌, ap, sym, subst, slice_get}
use Rattle.ijvm_verifier.proofs.Common.{cases_lt, slice_get_within, MemoryMap, IsMap, Row, ImageView, Kept, Node, VerifyError, Overlap, UnsetLocal, MainFrame}
use Rattle.ijvm_verifier.proofs.Common.{OutOfMemory, Arrival, HasRow, Reached, Names, IsMainCount, IsTrueOf, Accepts, at_most, KeepsSound, IsVerified, Kind}
use Rattle.ijvm_verifier.proofs.Common.{kept_at, kept_of, IsClosed, IsDecided, IsNodeOf, IsGraph, NodeNames, IsCounted, IsSurvey}

pub counted_skip : (image : ImageView) (seen : List (Option Kept)) (n count : ℕ) → IsClosed image seen → IsCounted image n count → ((k : Kept) → slice_get seen n ≡ Some (Some k) → k.unit ≢ None) → IsCounted image (n + 1) count
counted_skip image seen n count closed s other = record {
  above = λ a r k h lt row unit names. elim (cases_lt a.at n) [
    | inl old ↦ s.above a r k h old row unit names
    | inr now ↦ let at : a.at ≡ n = omega arith in
        absurd (other (kept_of a.unit a.depth) (ap (slice_get seen) (sym at) ∙ closed.all a h) unit)
  ];
  least = s.least;
}

-- the node names what the row names
named_by : (at : ℕ) (r : Row) (node : Node) (k : ℕ) → IsNodeOf at r node → Names r k → NodeNames node k
named_by at r node k h (inl reads) = inl (h.reads ∙ reads)
named_by at r node k h (inr stores) = inr (h.stores ∙ stores)

names_by : (at : ℕ) (r : Row) (node : Node) (k : ℕ) → IsNodeOf at r node → NodeNames node k → Names r k
names_by at r node k h (inl reads) = inl (sym h.reads ∙ reads)
names_by at r node k h (inr stores) = inr (sym h.stores ∙ stores)

pub counted_node : (image : ImageView) (seen : List (Option Kept)) (graph : List Node) (n count next : ℕ) (here : Kept) (node : Node) → IsClosed image seen → IsGraph image seen graph → IsCounted image n count →
    slice_get seen n ≡ Some (Some here) → here.unit ≡ None → slice_get graph n ≡ Some node → count ≤ next → ((k : ℕ) → NodeNames node k → k < next) →
    (next ≡ count) ⊎ ((k : ℕ) × NodeNames node k × (next ≡ k + 1)) → IsCounted image (n + 1) next
counted_node image seen graph n count next here node closed g s is unit is_node keeps above least =
    let d = closed.checked n here is in
    let of_row : IsNodeOf n d.0 node = (g.nodes n node is_node).here here d.0 is d.2.has_row in
    record {
      above = λ a q k h lt has main names. elim (cases_lt a.at n) [
        | inl old ↦ let below : k < count = s.above a q k h old has main names in omega arith
        | inr now ↦ let at : a.at ≡ n = omega arith in
            let same : q ≡ d.0 = d.2.alone q (subst (λ (i : ℕ). HasRow image.text i q) at has) in
            above k (named_by n d.0 node k of_row (subst (λ (x : Row). Names x k) same names))
      ];
      least = elim least [
        | inl same ↦ elim s.least [ inl zero_is ↦ inl (same ∙ zero_is) | inr w ↦ inr (w.0, w.1, same ∙ w.2) ]
        | inr w ↦ inr (w.0, (kept_at here n, d.0, closed.reached n here is, d.2.has_row, unit, names_by n d.0 node w.0 of_row w.1), w.2)
      ];
    }

pub counted_all : (image : ImageView) (seen : List (Option Kept)) (count : ℕ) → IsClosed image seen → IsCounted image (length image.text) count → IsMainCount image count
counted_all image seen count closed s = record {
  above = λ k w. s.above w.0 w.1 k w.2 (inside w.0 w.2) w.3 w.4 w.5;
  least = s.least;
}
  where
    inside : (a : Arrival) → Reached image a → a.at < length image.text
    inside a h = omega (arith, slice_get_within seen a.at (Some (kept_of a.unit a.depth)) (closed.all a h), closed.long)

-- accepted, by the two searches, the sweep and the count
pub accepted : (image : ImageView) (z count : ℕ) → ((e : VerifyError) → IsDecided e → IsTrueOf image z e → ⊥) → ((at k : ℕ) → IsTrueOf image z (UnsetLocal at k) → ⊥) → ((b : ℕ) → IsTrueOf image z (Overlap b) → ⊥) → IsMainCount image count →
    0x8000 + count ≤ z → Accepts image z
accepted image z count s u o m fits (UnsetLocal p k) h = u p k h
accepted image z count s u o m fits (Overlap p) h = o p h
accepted image z count s u o m fits (MainFrame n) h = let le : n ≤ count = at_most image n count h.0 m in omega (arith, h.1)
accepted image z count s u o m fits e h = s e tt h

-- what is verified, by a survey and the size of main's frame
pub verified : (image : ImageView) (main_locals : ℕ) (map : MemoryMap) (methods : ℕ) (kinds : List Kind) → IsSurvey image main_locals methods kinds →
    ((z count : ℕ) → Accepts image z → IsMainCount image count → KeepsSound image z count) → IsMap map.stack_end → 0x8000 + main_locals ≤ map.stack_end →
    IsVerified (record { image = image; main_locals = main_locals; map = map }) methods kinds
verified image main_locals map methods kinds s keeps map_is fits =
    let accepts : Accepts image map.stack_end = accepted image map.stack_end main_locals (s.decided map.stack_end) (s.set map.stack_end) (s.apart map.stack_end) s.main fits in
    record {
      accepted = record { map_is = map_is; accepts = accepts; main = s.main; main_fits = fits; safe = (keeps map.stack_end main_locals accepts s.main).safe };
      methods_are = s.methods_are;
      kinds_are = s.kinds_are;
    }

-- no search refuses the size of main's frame
pub no_frame : (image : ImageView) (e : VerifyError) (count : ℕ) → e ≡ MainFrame count → (e ≡ OutOfMemory) ⊎ IsTrueOf image (0x8000 + count) e → ⊥
no_frame image e count is (inl out) = cc (is, out)
no_frame image e count is (inr holds) = let w : IsTrueOf image (0x8000 + count) (MainFrame count) = subst (λ (x : VerifyError). IsTrueOf image (0x8000 + count) x) is holds in omega (arith, w.1)
