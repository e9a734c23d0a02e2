-- What lines make is what their sections make: lines that end outside of all sections are the lines of sections.
use Rattle.ijvm_asm.proofs.Common.{◌≡◌, ℕ, zero, suc, ◌+◌, Bool, true, false, List, [], ◌∷◌, ◌++◌, map, Option, Some, None, length, refl, ap, sym, subst, ◌∙◌}
use Rattle.ijvm_asm.proofs.Common.{cond, ◌||◌, not, Ok, Err, is_some, nat_le, nat_lt, or_parts, not-false, Constant, Place, Mark, Instruction, AsmError}
use Rattle.ijvm_line.specs.declared.place.Place.TheVariants as places
use Rattle.ijvm_line.specs.declared.place.Mark.TheVariants as marks
use Rattle.source_text.specs.Places as names
use Rattle.ijvm_asm.specs.declared.error.AsmError.TheVariants as errors
use Rattle.ijvm_asm.specs.Prelude.{BlankAt, Codes, Declares, Defines, Dotted, Heads, place_of, Said, Between, Body, body_lines, code_line, CodeItem, constant_line, Constants, lines_of, local_line, Locals, locals_lines, Main, Method, Section, begun, DraftView, Source, add_code, add_constant, add_instruction, add_line, add_method, begin_constants, begin_locals, begin_main, end_main, end_method, gather, is_declared, method_by, on_local, with_unit}
use Rattle.ijvm_asm.proofs.Building.{Build}
use Rattle.ijvm_asm.proofs.Conditions.{if_ok, ok}

-- ---- what is left at each place

abbrev Ended : Mark → List Said → Type 0
Ended m xs = (code : List (Option CodeItem)) × (rest : List Section) × (xs ≡ map code_line code ++ (Dotted m ∷ lines_of rest))

abbrev Fresh : Mark → List Said → Type 0
Fresh m xs = (body : Body) × (rest : List Section) × (xs ≡ body_lines body (Dotted m ∷ lines_of rest))

abbrev Coded : Bool → Bool → List Said → Type 0
Coded true false xs = Fresh marks.EndMain xs
Coded true true xs = Fresh marks.EndMethod xs
Coded false false xs = Ended marks.EndMain xs
Coded false true xs = Ended marks.EndMethod xs

abbrev Rest : Place → Bool → Bool → List Said → Type 0
Rest places.Outside d m xs = (rest : List Section) × (xs ≡ lines_of rest)
Rest places.Constants d m xs = (items : List (Option Constant)) × (rest : List Section) × (xs ≡ map constant_line items ++ (Dotted marks.EndConstants ∷ lines_of rest))
Rest places.Locals d m xs = (names : List (Option (List ℕ))) × (following : List Said) × (xs ≡ map local_line names ++ (Dotted marks.EndLocals ∷ following)) × Coded d m following
Rest places.Code d m xs = Coded d m xs

abbrev RestOf : Source → List Said → Type 0
RestOf s xs = Rest s.place s.may_declare (is_some s.unit.name) xs

at_place : (s : Source) (p : Place) (xs : List Said) → s.place ≡ p → Rest p s.may_declare (is_some s.unit.name) xs → RestOf s xs
at_place s p xs e r = subst (λ q. Rest q s.may_declare (is_some s.unit.name) xs) (sym e) r

to_place : (s : Source) (p : Place) (xs : List Said) → s.place ≡ p → RestOf s xs → Rest p s.may_declare (is_some s.unit.name) xs
to_place s p xs e r = subst (λ q. Rest q s.may_declare (is_some s.unit.name) xs) e r

-- what is left after the source that a line makes
made : (s u : Source) (xs : List Said) → ok s ≡ ok u → RestOf u xs → RestOf s xs
made s u xs h r = let q : s ≡ u = cc in subst (λ w. RestOf w xs) (sym q) r

with_label : (f : DraftView → Source) (a : Bool) (v : DraftView) (e : AsmError) (u : Source) → with_unit f (cond a (Err e) (Ok v)) ≡ Ok u → ok (f v) ≡ ok u
with_label f true v e u h = absurd (cc)
with_label f false v e u h = h

with_ok : (f : DraftView → Source) (a b : Bool) (v : DraftView) (e g : AsmError) (u : Source) → with_unit f (cond a (Err e) (cond b (Err g) (Ok v))) ≡ Ok u → ok (f v) ≡ ok u
with_ok f true b v e g u h = absurd (cc)
with_ok f false true v e g u h = absurd (cc)
with_ok f false false v e g u h = h

keeps_name : (k : ℕ) (v : DraftView) (i : Option Instruction) → (add_instruction k v i).name ≡ v.name
keeps_name k v None = refl
keeps_name k v (Some i) = refl

cons : (x : Said) (xs ys : List Said) → xs ≡ ys → x ∷ xs ≡ x ∷ ys
cons x xs ys q = ap (λ zs. x ∷ zs) q

-- ---- code lines

ended_blank : (m : Mark) (xs : List Said) → Ended m xs → Ended m (BlankAt places.Code ∷ xs)
ended_blank m xs (code, rest, q) = (None ∷ code, rest, cons _ _ _ q)

ended_code : (m : Mark) (l : Option (List ℕ)) (i : Option Instruction) (xs : List Said) → Ended m xs → Ended m (Codes l i ∷ xs)
ended_code m l i xs (code, rest, q) = (Some (record { label = l; instruction = i }) ∷ code, rest, cons _ _ _ q)

ended_end : (m : Mark) (xs : List Said) (rest : List Section) → xs ≡ lines_of rest → Ended m (Dotted m ∷ xs)
ended_end m xs rest q = ([], rest, cons _ _ _ q)

-- code lines by themselves are a unit
fresh_ended : (m : Mark) (xs : List Said) → Ended m xs → Fresh m xs
fresh_ended m xs (code, rest, q) = (record { locals = None; code = code }, rest, q)

fresh_blank : (m : Mark) (xs : List Said) → Fresh m xs → Fresh m (BlankAt places.Code ∷ xs)
fresh_blank m xs (body, rest, q) = by_locals body.locals q
  where
    by_locals : (o : Option Locals) → xs ≡ locals_lines o (map code_line body.code ++ (Dotted m ∷ lines_of rest)) → Fresh m (BlankAt places.Code ∷ xs)
    by_locals None q = (record { locals = None; code = None ∷ body.code }, rest, cons _ _ _ q)
    by_locals (Some d) q = (record { locals = Some (record { blank_lines = suc d.blank_lines; names = d.names }); code = body.code }, rest, cons _ _ _ q)

fresh_locals : (m : Mark) (names : List (Option (List ℕ))) (xs following : List Said) → xs ≡ map local_line names ++ (Dotted marks.EndLocals ∷ following) → Ended m following → Fresh m (Dotted marks.BeginLocals ∷ xs)
fresh_locals m names xs following q (code, rest, p) =
    (record { locals = Some (record { blank_lines = zero; names = names }); code = code }, rest, cons _ _ _ (q ∙ ap (λ ys. map local_line names ++ (Dotted marks.EndLocals ∷ ys)) p))

coded_blank : (d m : Bool) (xs : List Said) → Coded d m xs → Coded d m (BlankAt places.Code ∷ xs)
coded_blank true false xs c = fresh_blank marks.EndMain xs c
coded_blank true true xs c = fresh_blank marks.EndMethod xs c
coded_blank false false xs c = ended_blank marks.EndMain xs c
coded_blank false true xs c = ended_blank marks.EndMethod xs c

coded_code : (d m : Bool) (l : Option (List ℕ)) (i : Option Instruction) (xs : List Said) → Coded false m xs → Coded d m (Codes l i ∷ xs)
coded_code true false l i xs c = fresh_ended marks.EndMain (Codes l i ∷ xs) (ended_code marks.EndMain l i xs c)
coded_code true true l i xs c = fresh_ended marks.EndMethod (Codes l i ∷ xs) (ended_code marks.EndMethod l i xs c)
coded_code false false l i xs c = ended_code marks.EndMain l i xs c
coded_code false true l i xs c = ended_code marks.EndMethod l i xs c

coded_main : (d : Bool) (xs : List Said) (rest : List Section) → xs ≡ lines_of rest → Coded d false (Dotted marks.EndMain ∷ xs)
coded_main true xs rest q = fresh_ended marks.EndMain (Dotted marks.EndMain ∷ xs) (ended_end marks.EndMain xs rest q)
coded_main false xs rest q = ended_end marks.EndMain xs rest q

coded_method : (d : Bool) (xs : List Said) (rest : List Section) → xs ≡ lines_of rest → Coded d true (Dotted marks.EndMethod ∷ xs)
coded_method true xs rest q = fresh_ended marks.EndMethod (Dotted marks.EndMethod ∷ xs) (ended_end marks.EndMethod xs rest q)
coded_method false xs rest q = ended_end marks.EndMethod xs rest q

coded_locals : (m : Bool) (xs : List Said) → Rest places.Locals false m xs → Coded true m (Dotted marks.BeginLocals ∷ xs)
coded_locals false xs (names, following, q, c) = fresh_locals marks.EndMain names xs following q c
coded_locals true xs (names, following, q, c) = fresh_locals marks.EndMethod names xs following q c

-- ---- one line

blank : (p : Place) (d m : Bool) (xs : List Said) → Rest p d m xs → Rest p d m (BlankAt p ∷ xs)
blank places.Outside d m xs (rest, q) = (Between ∷ rest, cons _ _ _ q)
blank places.Constants d m xs (items, rest, q) = (None ∷ items, rest, cons _ _ _ q)
blank places.Locals d m xs (names, following, q, c) = (None ∷ names, following, cons _ _ _ q, c)
blank places.Code d m xs c = coded_blank d m xs c

constants : (xs : List Said) (d m e n : Bool) → Rest places.Constants d m xs → Rest places.Outside e n (Dotted marks.BeginConstants ∷ xs)
constants xs d m e n (items, rest, q) = (Constants items ∷ rest, cons _ _ _ q)

end_constants : (xs : List Said) (d m e n : Bool) → Rest places.Outside d m xs → Rest places.Constants e n (Dotted marks.EndConstants ∷ xs)
end_constants xs d m e n (rest, q) = ([], rest, cons _ _ _ q)

constant : (n : List ℕ) (v : ℕ) (xs : List Said) (d m : Bool) → Rest places.Constants d m xs → Rest places.Constants d m (Defines n v ∷ xs)
constant n v xs d m (items, rest, q) = (Some (record { name = n; value = v }) ∷ items, rest, cons _ _ _ q)

main : (xs : List Said) (d m : Bool) → Rest places.Code true false xs → Rest places.Outside d m (Dotted marks.BeginMain ∷ xs)
main xs d m (body, rest, q) = (Main body ∷ rest, cons _ _ _ q)

method : (n : List ℕ) (ps : List (List ℕ)) (xs : List Said) (d m : Bool) → Rest places.Code true true xs → Rest places.Outside d m (Heads n ps ∷ xs)
method n ps xs d m (body, rest, q) = (Method n ps body ∷ rest, cons _ _ _ q)

local : (n : List ℕ) (xs : List Said) (d m : Bool) → Rest places.Locals d m xs → Rest places.Locals d m (Declares n ∷ xs)
local n xs d m (names, following, q, c) = (Some n ∷ names, following, cons _ _ _ q, c)

end_locals : (xs : List Said) (d m : Bool) → Rest places.Code d m xs → Rest places.Locals d m (Dotted marks.EndLocals ∷ xs)
end_locals xs d m c = ([], xs, refl, c)

-- ---- lines, by their kind

module _ (k : ℕ) (s u : Source) (xs : List Said) (left : RestOf u xs) where
  by_blank : (p : Place) → s.place ≡ p → ok s ≡ ok u → RestOf s (BlankAt p ∷ xs)
  by_blank p e h = at_place s p (BlankAt p ∷ xs) e (blank p s.may_declare (is_some s.unit.name) xs (to_place s p xs e (made s u xs h left)))

  by_constants : s.place ≡ places.Outside → begin_constants k s ≡ Ok u → RestOf s (Dotted marks.BeginConstants ∷ xs)
  by_constants e h = at_place s places.Outside (Dotted marks.BeginConstants ∷ xs) e
      (constants xs s.may_declare (is_some s.unit.name) s.may_declare (is_some s.unit.name)
      (made (record s { place = places.Constants; section = k; seen_constants = true }) u xs (if_ok s.seen_constants (errors.BadLine k) _ u h).1 left))

  by_end_constants : s.place ≡ places.Constants → ok (record s { place = places.Outside }) ≡ ok u → RestOf s (Dotted marks.EndConstants ∷ xs)
  by_end_constants e h = at_place s places.Constants (Dotted marks.EndConstants ∷ xs) e
      (end_constants xs s.may_declare (is_some s.unit.name) s.may_declare (is_some s.unit.name)
      (made (record s { place = places.Outside }) u xs h left))

  by_main : s.place ≡ places.Outside → begin_main k s ≡ Ok u → RestOf s (Dotted marks.BeginMain ∷ xs)
  by_main e h = at_place s places.Outside (Dotted marks.BeginMain ∷ xs) e (main xs s.may_declare (is_some s.unit.name)
      (made (record s { place = places.Code; section = k; may_declare = true; seen_main = true; unit = begun None [] }) u xs (if_ok s.seen_main (errors.BadLine k) _ u h).1 left))

  by_method : (n : List ℕ) (ps : List (List ℕ)) → s.place ≡ places.Outside → add_method k s n ps ≡ Ok u → RestOf s (Heads n ps ∷ xs)
  by_method n ps e h = by_gathered (gather [] ps) (if_ok (is_declared s n) (errors.DuplicateName k) _ u h).1
    where
      by_gathered : (o : Option (List (List ℕ))) → method_by k s n o ≡ Ok u → RestOf s (Heads n ps ∷ xs)
      by_gathered None h = absurd (cc)
      by_gathered (Some qs) h = at_place s places.Outside (Heads n ps ∷ xs) e (method n ps xs s.may_declare (is_some s.unit.name)
          (made (record s { place = places.Code; section = k; may_declare = true; methods = s.methods ++ n ∷ []; unit = begun (Some n) qs }) u xs (if_ok (nat_lt 65534 (length qs)) (errors.TooManyNames k) _ u h).1 left))

  by_constant : (n : List ℕ) (v : ℕ) → s.place ≡ places.Constants → add_constant k s n v ≡ Ok u → RestOf s (Defines n v ∷ xs)
  by_constant n v e h =
      let t : Source = record s { constants = s.constants ++ n ∷ []; values = s.values ++ v ∷ [] } in
      at_place s places.Constants (Defines n v ∷ xs) e (constant n v xs s.may_declare (is_some s.unit.name)
      (to_place t places.Constants xs e (made t u xs (if_ok (is_declared s n) (errors.DuplicateName k) _ u h).1 left)))

  by_locals : s.place ≡ places.Code → begin_locals k s ≡ Ok u → RestOf s (Dotted marks.BeginLocals ∷ xs)
  by_locals e h =
      let b = if_ok (not s.may_declare) (errors.BadLine k) _ u h in
      at_place s places.Code (Dotted marks.BeginLocals ∷ xs) e
      (subst (λ c. Coded c (is_some s.unit.name) (Dotted marks.BeginLocals ∷ xs)) (sym (not-false s.may_declare b.0))
      (coded_locals (is_some s.unit.name) xs (made (record s { place = places.Locals; inner = k; may_declare = false }) u xs b.1 left)))

  by_end_locals : s.place ≡ places.Locals → ok (record s { place = places.Code }) ≡ ok u → RestOf s (Dotted marks.EndLocals ∷ xs)
  by_end_locals e h = at_place s places.Locals (Dotted marks.EndLocals ∷ xs) e
      (end_locals xs s.may_declare (is_some s.unit.name) (made (record s { place = places.Code }) u xs h left))

  by_end_main : s.place ≡ places.Code → end_main k s ≡ Ok u → RestOf s (Dotted marks.EndMain ∷ xs)
  by_end_main e h =
      let b = if_ok (is_some s.unit.name || s.unit.pending) (errors.BadLine k) _ u h in
      let r : Rest places.Outside s.may_declare false xs = made (record s { place = places.Outside; unit = begun None []; main = Some s.unit }) u xs b.1 left in
      at_place s places.Code (Dotted marks.EndMain ∷ xs) e
      (subst (λ m. Coded s.may_declare m (Dotted marks.EndMain ∷ xs)) (sym (or_parts (is_some s.unit.name) s.unit.pending b.0).0)
      (coded_main s.may_declare xs r.0 r.1))

  by_end_method : s.place ≡ places.Code → end_method k s ≡ Ok u → RestOf s (Dotted marks.EndMethod ∷ xs)
  by_end_method e h =
      let b = if_ok (not (is_some s.unit.name) || s.unit.pending) (errors.BadLine k) _ u h in
      let r : Rest places.Outside s.may_declare false xs = made (record s { place = places.Outside; unit = begun None []; units = s.units ++ s.unit ∷ [] }) u xs b.1 left in
      at_place s places.Code (Dotted marks.EndMethod ∷ xs) e
      (subst (λ m. Coded s.may_declare m (Dotted marks.EndMethod ∷ xs)) (sym (not-false (is_some s.unit.name) (or_parts (not (is_some s.unit.name)) s.unit.pending b.0).0))
      (coded_method s.may_declare xs r.0 r.1))

  by_local : (n : List ℕ) → s.place ≡ places.Locals → on_local k s n ≡ Ok u → RestOf s (Declares n ∷ xs)
  by_local n e h =
      let v : DraftView = record s.unit { names = s.unit.names ++ n ∷ [] } in
      let t : Source = record s { unit = v } in
      at_place s places.Locals (Declares n ∷ xs) e (local n xs s.may_declare (is_some s.unit.name)
      (to_place t places.Locals xs e (made t u xs (with_ok (λ w. record s { unit = w }) (is_some (names.place_of_name s.unit.names n)) (nat_le 65534 (length s.unit.names)) v (errors.DuplicateName k) (errors.TooManyNames k) u h) left)))

  by_instruction : (l : Option (List ℕ)) (i : Option Instruction) (v : DraftView) → v.name ≡ s.unit.name → s.place ≡ places.Code
      → ok (record s { unit = add_instruction k v i; may_declare = false }) ≡ ok u → RestOf s (Codes l i ∷ xs)
  by_instruction l i v n e h =
      let t : Source = record s { unit = add_instruction k v i; may_declare = false } in
      at_place s places.Code (Codes l i ∷ xs) e (coded_code s.may_declare (is_some s.unit.name) l i xs
      (subst (λ m. Coded false (is_some m) xs) (keeps_name k v i ∙ n) (to_place t places.Code xs e (made t u xs h left))))

  by_code : (l : Option (List ℕ)) (i : Option Instruction) → s.place ≡ places.Code → add_code k s l i ≡ Ok u → RestOf s (Codes l i ∷ xs)
  by_code None i e h = by_instruction None i s.unit refl e h
  by_code (Some l) i e h =
      let v : DraftView = record s.unit { labels = s.unit.labels ++ l ∷ []; label_positions = s.unit.label_positions ++ length s.unit.lines ∷ []; pending = true } in
      by_instruction (Some l) i v refl e (with_label (λ w. record s { unit = add_instruction k w i; may_declare = false }) (is_some (names.place_of_name s.unit.labels l)) v (errors.DuplicateName k) u h)

  by_mark : (m : Mark) → s.place ≡ place_of (Dotted m) → add_line k s (Dotted m) ≡ Ok u → RestOf s (Dotted m ∷ xs)
  by_mark marks.BeginConstants e h = by_constants e h
  by_mark marks.EndConstants e h = by_end_constants e h
  by_mark marks.BeginMain e h = by_main e h
  by_mark marks.EndMain e h = by_end_main e h
  by_mark marks.EndMethod e h = by_end_method e h
  by_mark marks.BeginLocals e h = by_locals e h
  by_mark marks.EndLocals e h = by_end_locals e h

  by_line : (x : Said) → s.place ≡ place_of x → add_line k s x ≡ Ok u → RestOf s (x ∷ xs)
  by_line (BlankAt p) e h = by_blank p e h
  by_line (Dotted m) e h = by_mark m e h
  by_line (Heads n ps) e h = by_method n ps e h
  by_line (Defines n v) e h = by_constant n v e h
  by_line (Declares n) e h = by_local n e h
  by_line (Codes l i) e h = by_code l i e h

-- lines that end outside of all sections
pub left_of : (xs : List Said) (k : ℕ) (s t : Source) → t.place ≡ places.Outside → Build k s xs t → RestOf s xs
left_of [] k s t e b = at_place s places.Outside [] (ap (λ w. w.place) b ∙ e) ([], refl)
left_of (x ∷ xs) k s t e (u, p, h, more) = by_line k s u xs (left_of xs (k + 1) u t e more) x p h
