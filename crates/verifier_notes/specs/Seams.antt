-- What holds of two lists of items, one after the other.
use Rattle.std.proofs.Common.{◌≡◌, ◌≤◌, inl, inr, ⊎_elim, ℕ, ◌+◌, Bool, if◌then◌else◌, List, [], ◌∷◌, ◌++◌, Some, ap, ◌∙◌, subst, arith}
use Rattle.std.proofs.lemmas.Bool.{eq-eqb}
use Rattle.std.proofs.lemmas.Bool.Decides.{eqb_tells}
use Rattle.ijvm_instr.specs.declared.instr.Instr.{Instr}
use Rattle.ijvm_instr.specs.Prelude.{size_least, row_of, size_of}
use Rattle.ijvm_image.specs.Prelude.{ImageView}
use Rattle.verifier_notes.specs.Noted.{Note}
use Rattle.verifier_notes.specs.Listed.{AllMet, Code, HasHeader, Header, Item, item_size, items_size, note_at, note_from, own_note}

pub items_append : (a b : List Item) → items_size (a ++ b) ≡ items_size a + items_size b
items_append [] b = omega arith
items_append (x ∷ a) b = omega (arith, items_append a b)

item_least : (x : Item) → 1 ≤ item_size x
item_least (Code i n) = size_least i
item_least Header = omega arith

-- the note of an item after others
note_after : (pre : List Item) (i : Instr) (n : Note) (post : List Item) (start at : ℕ) → at ≡ start + items_size pre
    → note_from start (pre ++ (Code i n ∷ post)) at ≡ Some n
note_after [] i n post start at e =
    ap (λ (b : Bool). if b then Some n else note_from (start + size_of (row_of i)) post at) (eq-eqb at start (omega (arith, e)))
note_after (x ∷ pre) i n post start at e =
    ⊎_elim
    (λ t. absurd (omega (arith, t.1, e, item_least x)))
    (λ t. ap (λ (b : Bool). if b then own_note x else note_from (start + item_size x) (pre ++ (Code i n ∷ post)) at) t.0
    ∙ note_after pre i n post (start + item_size x) at (omega (arith, e)))
    (eqb_tells at start)

pub note_at_seam : (whole pre : List Item) (i : Instr) (n : Note) (post : List Item) (at : ℕ) → whole ≡ pre ++ (Code i n ∷ post)
    → at ≡ items_size pre → note_at whole at ≡ Some n
note_at_seam whole pre i n post at is e = ap (λ x. note_at x at) is ∙ note_after pre i n post 0 at (omega (arith, e))

-- the header of what stands after others
pub header_after : (pre post : List Item) (start : ℕ) → HasHeader start (pre ++ (Header ∷ post)) (start + items_size pre)
header_after [] post start = inl (omega arith)
header_after (Code i n ∷ pre) post start =
    let e : start + size_of (row_of i) + items_size pre ≡ start + (size_of (row_of i) + items_size pre) = omega arith in
    subst (λ (x : ℕ). HasHeader (start + size_of (row_of i)) (pre ++ (Header ∷ post)) x) e (header_after pre post (start + size_of (row_of i)))
header_after (Header ∷ pre) post start =
    let e : start + 4 + items_size pre ≡ start + (4 + items_size pre) = omega arith in
    inr (subst (λ (x : ℕ). HasHeader (start + 4) (pre ++ (Header ∷ post)) x) e (header_after pre post (start + 4)))

pub met_append : (image : ImageView) (whole a b : List Item) (at : ℕ) → AllMet image whole at a → AllMet image whole (at + items_size a) b
    → AllMet image whole at (a ++ b)
met_append image whole [] b at h k = let e : at + 0 ≡ at = omega arith in subst (λ (x : ℕ). AllMet image whole x b) e k
met_append image whole (Code i n ∷ a) b at h k =
    let e : at + (size_of (row_of i) + items_size a) ≡ at + size_of (row_of i) + items_size a = omega arith in
    (h.0, met_append image whole a b (at + size_of (row_of i)) h.1 (subst (λ (x : ℕ). AllMet image whole x b) e k))
met_append image whole (Header ∷ a) b at h k =
    let e : at + (4 + items_size a) ≡ at + 4 + items_size a = omega arith in
    met_append image whole a b (at + 4) h (subst (λ (x : ℕ). AllMet image whole x b) e k)
