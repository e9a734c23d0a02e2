-- The lines of a section of constants make what the section makes.
use Rattle.ijvm_asm.proofs.Common.{◌≡◌, ℕ, ◌+◌, true, false, List, [], ◌∷◌, ◌++◌, map, Option, Some, None, refl, ap, sym, subst, ◌∙◌, is_some, append_assoc}
use Rattle.ijvm_asm.proofs.Common.{append-nil, or_parts, or_from, None-if_not_some, Constant}
use Rattle.ijvm_line.specs.declared.place.Place.TheVariants as places
use Rattle.ijvm_line.specs.declared.place.Mark.TheVariants as marks
use Rattle.source_text.specs.Places as names
use Rattle.ijvm_asm.specs.declared.error.AsmError.TheVariants as errors
use Rattle.ijvm_asm.specs.Prelude.{Dotted, Said, constant_line, Constants, section_lines, Source, AreConstants, defined, is_declared}
use Rattle.ijvm_asm.proofs.Made.{MakesConstants}
use Rattle.ijvm_asm.proofs.Building.{Build}
use Rattle.ijvm_asm.proofs.Conditions.{if_ok, ok, ok_if}

abbrev names_of : List Constant → List (List ℕ)
names_of cs = map (λ c. c.name) cs

abbrev values_of : List Constant → List ℕ
values_of cs = map (λ c. c.value) cs

abbrev added : Source → List (List ℕ) → List ℕ → Source
added s cs vs = record s { place = places.Outside; constants = cs; values = vs }

abbrev with_one : Source → Constant → Source
with_one s c = record s { constants = s.constants ++ c.name ∷ []; values = s.values ++ c.value ∷ [] }

abbrev items_lines : List (Option Constant) → List Said
items_lines items = map constant_line items ++ (Dotted marks.EndConstants ∷ [])

none_added : (s : Source) → added s (s.constants ++ []) (s.values ++ []) ≡ added s s.constants s.values
none_added s = ap (λ cs. added s cs (s.values ++ [])) (append-nil s.constants) ∙ ap (λ vs. added s s.constants vs) (append-nil s.values)

one_added : (s : Source) (c : Constant) (cs : List Constant) → added (with_one s c) ((s.constants ++ c.name ∷ []) ++ names_of cs) ((s.values ++ c.value ∷ []) ++ values_of cs)
    ≡ added s (s.constants ++ names_of (c ∷ cs)) (s.values ++ values_of (c ∷ cs))
one_added s c cs = ap (λ ns. added s ns ((s.values ++ c.value ∷ []) ++ values_of cs)) (append_assoc s.constants (c.name ∷ []) (names_of cs))
    ∙ ap (λ vs. added s (s.constants ++ names_of (c ∷ cs)) vs) (append_assoc s.values (c.value ∷ []) (values_of cs))

abbrev Added : Source → List Constant → Source → Type 0
Added s cs u = AreConstants s.methods s.constants cs × (u ≡ added s (s.constants ++ names_of cs) (s.values ++ values_of cs))

items_add : (items : List (Option Constant)) (k : ℕ) (s u : Source) → s.place ≡ places.Constants → Build k s (items_lines items) u → Added s (defined items) u
items_add [] k s u e (v, p, h, m) =
    let q : added s s.constants s.values ≡ v = cc in
    (tt, sym m ∙ (sym q ∙ sym (none_added s)))
items_add (None ∷ items) k s u e (v, p, h, more) =
    let q : s ≡ v = cc in
    items_add items (k + 1) s u e (subst (λ w. Build (k + 1) w (items_lines items) u) (sym q) more)
items_add (Some c ∷ items) k s u e (v, p, h, more) =
    let b = if_ok (is_declared s c.name) (errors.DuplicateName k) (ok (with_one s c)) v h in
    let g : ok (with_one s c) ≡ ok v = b.1 in
    let q : with_one s c ≡ v = cc in
    let n = or_parts (is_some (names.place_of_name s.constants c.name)) (is_some (names.place_of_name s.methods c.name)) b.0 in
    let r = items_add items (k + 1) (with_one s c) u e (subst (λ w. Build (k + 1) w (items_lines items) u) (sym q) more) in
    ((None-if_not_some _ n.0, None-if_not_some _ n.1, r.0), r.1 ∙ one_added s c (defined items))

undeclared : (s : Source) (name : List ℕ) → names.place_of_name s.constants name ≡ None → names.place_of_name s.methods name ≡ None → is_declared s name ≡ false
undeclared s name a b = or_from (is_some (names.place_of_name s.constants name)) (is_some (names.place_of_name s.methods name)) (ap is_some a) (ap is_some b)

items_added : (items : List (Option Constant)) (k : ℕ) (s u : Source) → s.place ≡ places.Constants → Added s (defined items) u → Build k s (items_lines items) u
items_added [] k s u e (n, q) = (added s s.constants s.values, e, refl, sym (q ∙ none_added s))
items_added (None ∷ items) k s u e a = (s, e, refl, items_added items (k + 1) s u e a)
items_added (Some c ∷ items) k s u e ((n, m, more), q) = (
  with_one s c,
  e,
  ok_if (is_declared s c.name) (errors.DuplicateName k) (ok (with_one s c)) (undeclared s c.name n m),
  items_added items (k + 1) (with_one s c) u e (more, q ∙ sym (one_added s c (defined items))),
)

abbrev opened : ℕ → Source → Source
opened k s = record s { place = places.Constants; section = k; seen_constants = true }

pub section_makes : (k : ℕ) (s u : Source) (items : List (Option Constant)) → s.place ≡ places.Outside → Build k s (section_lines (Constants items) []) u → MakesConstants k s items u
section_makes k s u items e (v, p, h, more) =
    let b = if_ok s.seen_constants (errors.BadLine k) (ok (opened k s)) v h in
    let g : ok (opened k s) ≡ ok v = b.1 in
    let q : opened k s ≡ v = cc in
    let r = items_add items (k + 1) (opened k s) u refl (subst (λ w. Build (k + 1) w (items_lines items) u) (sym q) more) in
    (b.0, r.0, r.1)

pub makes_section : (k : ℕ) (s u : Source) (items : List (Option Constant)) → s.place ≡ places.Outside → MakesConstants k s items u → Build k s (section_lines (Constants items) []) u
makes_section k s u items e (n, new, q) =
    (opened k s, e, ok_if s.seen_constants (errors.BadLine k) (ok (opened k s)) n, items_added items (k + 1) (opened k s) u refl (new, q))
