-- The lines of a unit make what its names, labels and instructions make.
use Rattle.ijvm_asm.proofs.Common.{◌≡◌, ℕ, ◌+◌, Bool, true, false, List, [], ◌∷◌, ◌++◌, map, length, Option, Some, None, refl, ap, sym, subst, ◌∙◌, cond, ◌||◌}
use Rattle.ijvm_asm.proofs.Common.{Ok, Err, is_some, nat_le, ⊤, append_assoc, length-append, append-nil, None-if_not_some, leb-false, lt-leb, most_names}
use Rattle.ijvm_asm.proofs.Common.{Instruction, DraftLine, AsmError}
use Rattle.ijvm_line.specs.declared.place.Place.TheVariants as places
use Rattle.ijvm_line.specs.declared.place.Mark.TheVariants as marks
use Rattle.source_text.specs.Places as names
use Rattle.ijvm_asm.specs.declared.error.AsmError.TheVariants as errors
use Rattle.ijvm_asm.specs.Prelude.{Dotted, Said, code_line, CodeItem, local_line, DraftView, Source, AreNew, positions_in, after_instruction, declared, labels_in, lines_in, waits, waits_after, with_position, with_instruction, with_label, add_code, add_instruction, with_unit}
use Rattle.ijvm_asm.proofs.Made.{MakesCode, MakesLocals, may_declare_after}
use Rattle.ijvm_asm.proofs.Building.{Build}
use Rattle.ijvm_asm.proofs.Conditions.{ok}

-- ---- locals

abbrev named : Source → List (List ℕ) → Source
named s ns = record s { place = places.Code; unit = record s.unit { names = ns } }

abbrev pub with_local : Source → List ℕ → Source
with_local s n = record s { unit = record s.unit { names = s.unit.names ++ n ∷ [] } }

abbrev locals_end : List (Option (List ℕ)) → List Said
locals_end items = map local_line items ++ (Dotted marks.EndLocals ∷ [])

pub with_both : (f : DraftView → Source) (a b : Bool) (v : DraftView) (e g : AsmError) (u : Source) → with_unit f (cond a (Err e) (cond b (Err g) (Ok v))) ≡ Ok u → (a ≡ false) × (b ≡ false) × (ok (f v) ≡ ok u)
with_both f true b v e g u h = absurd (cc)
with_both f false true v e g u h = absurd (cc)
with_both f false false v e g u h = (refl, refl, h)

both_with : (f : DraftView → Source) (a b : Bool) (v : DraftView) (e g : AsmError) → a ≡ false → b ≡ false → with_unit f (cond a (Err e) (cond b (Err g) (Ok v))) ≡ ok (f v)
both_with f true b v e g h j = absurd (cc)
both_with f false true v e g h j = absurd (cc)
both_with f false false v e g h j = refl

pub locals_make : (items : List (Option (List ℕ))) (k : ℕ) (s u : Source) → s.place ≡ places.Locals → Build k s (locals_end items) u → MakesLocals s items u
locals_make [] k s u e (v, p, h, m) =
    let q : named s s.unit.names ≡ v = cc in
    (tt, sym m ∙ (sym q ∙ sym (ap (named s) (append-nil s.unit.names))))
locals_make (None ∷ items) k s u e (v, p, h, more) =
    let q : s ≡ v = cc in
    locals_make items (k + 1) s u e (subst (λ w. Build (k + 1) w (locals_end items) u) (sym q) more)
locals_make (Some n ∷ items) k s u e (v, p, h, more) =
    let b = with_both (λ w. record s { unit = w }) (is_some (names.place_of_name s.unit.names n)) (nat_le most_names (length s.unit.names)) (record s.unit { names = s.unit.names ++ n ∷ [] }) (errors.DuplicateName k) (errors.TooManyNames k) v h in
    let g : ok (with_local s n) ≡ ok v = b.2 in
    let q : with_local s n ≡ v = cc in
    let r = locals_make items (k + 1) (with_local s n) u e (subst (λ w. Build (k + 1) w (locals_end items) u) (sym q) more) in
    ((None-if_not_some _ b.0, leb-false most_names (length s.unit.names) b.1, r.0), r.1 ∙ ap (named s) (append_assoc s.unit.names (n ∷ []) (declared items)))

pub make_locals : (items : List (Option (List ℕ))) (k : ℕ) (s u : Source) → s.place ≡ places.Locals → MakesLocals s items u → Build k s (locals_end items) u
make_locals [] k s u e (n, q) = (named s s.unit.names, e, refl, sym (q ∙ ap (named s) (append-nil s.unit.names)))
make_locals (None ∷ items) k s u e a = (s, e, refl, make_locals items (k + 1) s u e a)
make_locals (Some n ∷ items) k s u e ((new, less, more), q) = (
  with_local s n,
  e,
  both_with (λ w. record s { unit = w }) (is_some (names.place_of_name s.unit.names n)) (nat_le most_names (length s.unit.names)) (record s.unit { names = s.unit.names ++ n ∷ [] }) (errors.DuplicateName k) (errors.TooManyNames k) (ap is_some new) (lt-leb most_names (length s.unit.names) less),
  make_locals items (k + 1) (with_local s n) u e (more, q ∙ sym (ap (named s) (append_assoc s.unit.names (n ∷ []) (declared items)))),
)

-- ---- code

abbrev pub labelled : DraftView → Option (List ℕ) → DraftView
labelled u None = u
labelled u (Some l) = record u { labels = u.labels ++ l ∷ []; label_positions = u.label_positions ++ length u.lines ∷ []; pending = true }

abbrev pub IsNew : List (List ℕ) → Option (List ℕ) → Type 0
IsNew seen None = ⊤
IsNew seen (Some l) = names.place_of_name seen l ≡ None

-- the source after code line `k`
abbrev pub after : ℕ → Source → Option (List ℕ) → Option Instruction → Source
after k s l i = record s { unit = add_instruction k (labelled s.unit l) i; may_declare = false }

abbrev coded : Source → List (List ℕ) → List ℕ → List DraftLine → Bool → Bool → Source
coded s ls label_positions ds waiting may = record s { may_declare = may; unit = record s.unit { labels = ls; label_positions = label_positions; lines = ds; pending = waiting } }

coded_same : (s : Source) (a b : List (List ℕ)) (c d : List ℕ) (e f : List DraftLine) (p q m n : Bool) → a ≡ b → c ≡ d → e ≡ f → p ≡ q → m ≡ n → coded s a c e p m ≡ coded s b d f q n
coded_same s a b c d e f p q m n ab cd ef pq mn =
    ap (λ x. coded s x c e p m) ab ∙ (ap (λ x. coded s b x e p m) cd ∙ (ap (λ x. coded s b d x p m) ef ∙ (ap (λ x. coded s b d f x m) pq ∙ ap (λ x. coded s b d f q x) mn)))

over : (k : ℕ) (s : Source) (l : Option (List ℕ)) (i : Option Instruction) (a : List (List ℕ)) (c : List ℕ) (e : List DraftLine) (p m : Bool) → coded (after k s l i) a c e p m ≡ coded s a c e p m
over k s None None a c e p m = refl
over k s None (Some i) a c e p m = refl
over k s (Some l) None a c e p m = refl
over k s (Some l) (Some i) a c e p m = refl

labels_over : (k : ℕ) (u : DraftView) (l : Option (List ℕ)) (i : Option Instruction) (xs : List (List ℕ)) → (add_instruction k (labelled u l) i).labels ++ xs ≡ u.labels ++ with_label l xs
labels_over k u None None xs = refl
labels_over k u None (Some i) xs = refl
labels_over k u (Some l) None xs = append_assoc u.labels (l ∷ []) xs
labels_over k u (Some l) (Some i) xs = append_assoc u.labels (l ∷ []) xs

lines_over : (k : ℕ) (u : DraftView) (l : Option (List ℕ)) (i : Option Instruction) (xs : List DraftLine) → (add_instruction k (labelled u l) i).lines ++ xs ≡ u.lines ++ with_instruction k i xs
lines_over k u None None xs = refl
lines_over k u None (Some i) xs = append_assoc u.lines ((record { line = k; instruction = i }) ∷ []) xs
lines_over k u (Some l) None xs = refl
lines_over k u (Some l) (Some i) xs = append_assoc u.lines ((record { line = k; instruction = i }) ∷ []) xs

count_over : (k : ℕ) (u : DraftView) (l : Option (List ℕ)) (i : Option Instruction) → length (add_instruction k (labelled u l) i).lines ≡ after_instruction (length u.lines) i
count_over k u None None = refl
count_over k u None (Some i) = length-append u.lines ((record { line = k; instruction = i }) ∷ [])
count_over k u (Some l) None = refl
count_over k u (Some l) (Some i) = length-append u.lines ((record { line = k; instruction = i }) ∷ [])

positions_over : (k : ℕ) (u : DraftView) (l : Option (List ℕ)) (i : Option Instruction) (xs : List ℕ) → (add_instruction k (labelled u l) i).label_positions ++ xs ≡ u.label_positions ++ with_position (length u.lines) l xs
positions_over k u None None xs = refl
positions_over k u None (Some i) xs = refl
positions_over k u (Some l) None xs = append_assoc u.label_positions (length u.lines ∷ []) xs
positions_over k u (Some l) (Some i) xs = append_assoc u.label_positions (length u.lines ∷ []) xs

waits_over : (k : ℕ) (u : DraftView) (l : Option (List ℕ)) (i : Option Instruction) → (add_instruction k (labelled u l) i).pending ≡ waits (is_some l || u.pending) i
waits_over k u None None = refl
waits_over k u None (Some i) = refl
waits_over k u (Some l) None = refl
waits_over k u (Some l) (Some i) = refl

stays_false : (items : List (Option CodeItem)) → may_declare_after false items ≡ false
stays_false [] = refl
stays_false (None ∷ items) = stays_false items
stays_false (Some c ∷ items) = refl

-- what code lines from line `k` on leave
abbrev following : ℕ → Source → List (Option CodeItem) → Source
following k s items = coded s (s.unit.labels ++ labels_in items) (s.unit.label_positions ++ positions_in (length s.unit.lines) items) (s.unit.lines ++ lines_in k items) (waits_after s.unit.pending items) (may_declare_after s.may_declare items)

after_none : (k : ℕ) (s : Source) → following k s [] ≡ s
after_none k s = coded_same s (s.unit.labels ++ []) s.unit.labels (s.unit.label_positions ++ []) s.unit.label_positions (s.unit.lines ++ []) s.unit.lines s.unit.pending s.unit.pending s.may_declare s.may_declare
    (append-nil s.unit.labels) (append-nil s.unit.label_positions) (append-nil s.unit.lines) refl refl

one_after : (k : ℕ) (s : Source) (c : CodeItem) (items : List (Option CodeItem)) → following (k + 1) (after k s c.label c.instruction) items ≡ following k s (Some c ∷ items)
one_after k s c items =
    let w : DraftView = add_instruction k (labelled s.unit c.label) c.instruction in
    let n : ℕ = after_instruction (length s.unit.lines) c.instruction in
    over k s c.label c.instruction (w.labels ++ labels_in items) (w.label_positions ++ positions_in (length w.lines) items) (w.lines ++ lines_in (k + 1) items) (waits_after w.pending items) (may_declare_after false items)
    ∙ coded_same s (w.labels ++ labels_in items) (s.unit.labels ++ with_label c.label (labels_in items))
    (w.label_positions ++ positions_in (length w.lines) items) (s.unit.label_positions ++ with_position (length s.unit.lines) c.label (positions_in n items))
    (w.lines ++ lines_in (k + 1) items) (s.unit.lines ++ with_instruction k c.instruction (lines_in (k + 1) items))
    (waits_after w.pending items) (waits_after (waits (is_some c.label || s.unit.pending) c.instruction) items)
    (may_declare_after false items) false
    (labels_over k s.unit c.label c.instruction (labels_in items))
    (ap (λ m. w.label_positions ++ positions_in m items) (count_over k s.unit c.label c.instruction) ∙ positions_over k s.unit c.label c.instruction (positions_in n items))
    (lines_over k s.unit c.label c.instruction (lines_in (k + 1) items))
    (ap (λ b. waits_after b items) (waits_over k s.unit c.label c.instruction))
    (stays_false items)

new_labels : (k : ℕ) (u : DraftView) (l : Option (List ℕ)) (i : Option Instruction) (xs : List (List ℕ)) → IsNew u.labels l → AreNew (add_instruction k (labelled u l) i).labels xs → AreNew u.labels (with_label l xs)
new_labels k u None None xs n a = a
new_labels k u None (Some i) xs n a = a
new_labels k u (Some l) None xs n a = (n, a)
new_labels k u (Some l) (Some i) xs n a = (n, a)

labels_new : (k : ℕ) (u : DraftView) (l : Option (List ℕ)) (i : Option Instruction) (xs : List (List ℕ)) → AreNew u.labels (with_label l xs) → IsNew u.labels l × AreNew (add_instruction k (labelled u l) i).labels xs
labels_new k u None None xs a = (tt, a)
labels_new k u None (Some i) xs a = (tt, a)
labels_new k u (Some l) None xs (n, a) = (n, a)
labels_new k u (Some l) (Some i) xs (n, a) = (n, a)

with_if : (f : DraftView → Source) (a : Bool) (v : DraftView) (e : AsmError) (u : Source) → with_unit f (cond a (Err e) (Ok v)) ≡ Ok u → (a ≡ false) × (ok (f v) ≡ ok u)
with_if f true v e u h = absurd (cc)
with_if f false v e u h = (refl, h)

if_with : (f : DraftView → Source) (a : Bool) (v : DraftView) (e : AsmError) → a ≡ false → with_unit f (cond a (Err e) (Ok v)) ≡ ok (f v)
if_with f true v e h = absurd (cc)
if_with f false v e h = refl

pub line_made : (k : ℕ) (s v : Source) (l : Option (List ℕ)) (i : Option Instruction) → add_code k s l i ≡ Ok v → IsNew s.unit.labels l × (ok (after k s l i) ≡ ok v)
line_made k s v None i h = (tt, h)
line_made k s v (Some l) i h =
    let b = with_if (λ u. record s { unit = add_instruction k u i; may_declare = false }) (is_some (names.place_of_name s.unit.labels l)) (labelled s.unit (Some l)) (errors.DuplicateName k) v h in
    (None-if_not_some _ b.0, b.1)

made_line : (k : ℕ) (s : Source) (l : Option (List ℕ)) (i : Option Instruction) → IsNew s.unit.labels l → add_code k s l i ≡ ok (after k s l i)
made_line k s None i n = refl
made_line k s (Some l) i n =
    if_with (λ u. record s { unit = add_instruction k u i; may_declare = false }) (is_some (names.place_of_name s.unit.labels l)) (labelled s.unit (Some l)) (errors.DuplicateName k) (ap is_some n)

pub code_makes : (items : List (Option CodeItem)) (k : ℕ) (s u : Source) → s.place ≡ places.Code → Build k s (map code_line items) u → MakesCode k s items u
code_makes [] k s u e m = (tt, sym m ∙ sym (after_none k s))
code_makes (None ∷ items) k s u e (v, p, h, more) =
    let q : s ≡ v = cc in
    code_makes items (k + 1) s u e (subst (λ w. Build (k + 1) w (map code_line items) u) (sym q) more)
code_makes (Some c ∷ items) k s u e (v, p, h, more) =
    let b = line_made k s v c.label c.instruction h in
    let g : ok (after k s c.label c.instruction) ≡ ok v = b.1 in
    let q : after k s c.label c.instruction ≡ v = cc in
    let r = code_makes items (k + 1) (after k s c.label c.instruction) u e (subst (λ w. Build (k + 1) w (map code_line items) u) (sym q) more) in
    (new_labels k s.unit c.label c.instruction (labels_in items) b.0 r.0, r.1 ∙ one_after k s c items)

pub makes_code : (items : List (Option CodeItem)) (k : ℕ) (s u : Source) → s.place ≡ places.Code → MakesCode k s items u → Build k s (map code_line items) u
makes_code [] k s u e (n, q) = sym (q ∙ after_none k s)
makes_code (None ∷ items) k s u e a = (s, e, refl, makes_code items (k + 1) s u e a)
makes_code (Some c ∷ items) k s u e (n, q) =
    let a = labels_new k s.unit c.label c.instruction (labels_in items) n in
    (after k s c.label c.instruction, e, made_line k s c.label c.instruction a.0, makes_code items (k + 1) (after k s c.label c.instruction) u e (a.1, q ∙ sym (one_after k s c items)))
