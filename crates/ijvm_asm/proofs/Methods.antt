-- The lines of a method make what the method says.
use Rattle.ijvm_asm.proofs.Common.{◌≡◌, ℕ, ◌+◌, ◌≤◌, true, List, [], ◌∷◌, ◌++◌, map, length, Option, Some, None, refl, ap, sym, subst, ◌∙◌, cond, ◌||◌, not, Ok}
use Rattle.ijvm_asm.proofs.Common.{is_some, nat_lt, append_assoc, append-nil, or_parts, or_from, le-ltb, ltb-false, None-if_not_some, most_names}
use Rattle.ijvm_line.specs.declared.place.Mark.TheVariants as marks
use Rattle.ijvm_line.specs.declared.place.Place.TheVariants as places
use Rattle.source_text.specs.Places as names
use Rattle.ijvm_asm.specs.declared.error.AsmError.TheVariants as errors
use Rattle.ijvm_asm.specs.Prelude.{Dotted, Body, code_line, locals_lines, Method, section_lines, begun, Source, AreNew, code_from, gather, is_declared, method_by}
use Rattle.ijvm_asm.proofs.Made.{MakesMethod}
use Rattle.ijvm_asm.proofs.Building.{Build, join, split}
use Rattle.ijvm_asm.proofs.Conditions.{if_ok, ok, ok_if}
use Rattle.ijvm_asm.proofs.Units.{code_makes, makes_code}
use Rattle.ijvm_asm.proofs.Mains.{open_locals, opens, opens_code}

pub gathered : (ps seen qs : List (List ℕ)) → gather seen ps ≡ Some qs → AreNew seen ps × (qs ≡ seen ++ ps)
gathered [] seen qs h = let q : seen ≡ qs = cc in (tt, sym q ∙ sym (append-nil seen))
gathered (n ∷ ns) seen qs h = go (names.place_of_name seen n) refl (gathered ns (seen ++ n ∷ []) qs) h
  where
    go : (o : Option ℕ) → names.place_of_name seen n ≡ o → (gather (seen ++ n ∷ []) ns ≡ Some qs → AreNew (seen ++ n ∷ []) ns × (qs ≡ (seen ++ n ∷ []) ++ ns)) → cond (is_some o) None (gather (seen ++ n ∷ []) ns) ≡ Some qs → AreNew seen (n ∷ ns) × (qs ≡ seen ++ n ∷ ns)
    go None e f h = let r = f h in ((e, r.0), r.1 ∙ append_assoc seen (n ∷ []) ns)
    go (Some i) e f h = absurd (cc)

pub gathers : (ps seen : List (List ℕ)) → AreNew seen ps → gather seen ps ≡ Some (seen ++ ps)
gathers [] seen a = ap Some (sym (append-nil seen))
gathers (n ∷ ns) seen a = ap (λ o. cond (is_some o) None (gather (seen ++ n ∷ []) ns)) a.0 ∙ (gathers ns (seen ++ n ∷ []) a.1 ∙ ap Some (append_assoc seen (n ∷ []) ns))

abbrev pub opened : ℕ → Source → List ℕ → List (List ℕ) → Source
opened k s n ps = record s { place = places.Code; section = k; may_declare = true; methods = s.methods ++ n ∷ []; unit = begun (Some n) ps }

abbrev pub ended : Source → Source
ended w = record w { place = places.Outside; unit = begun None []; units = w.units ++ w.unit ∷ [] }

pub begins : (k : ℕ) (s v : Source) (n : List ℕ) (ps : List (List ℕ)) (o : Option (List (List ℕ))) → gather [] ps ≡ o → method_by k s n o ≡ Ok v → AreNew [] ps × (length ps ≤ most_names) × (ok (opened k s n ps) ≡ ok v)
begins k s v n ps None e h = absurd (cc)
begins k s v n ps (Some qs) e h =
    let g = gathered ps [] qs e in
    let i = if_ok (nat_lt most_names (length qs)) (errors.TooManyNames k) (ok (opened k s n qs)) v h in
    (g.0, subst (λ x. length x ≤ most_names) g.1 (ltb-false most_names (length qs) i.0), subst (λ x. ok (opened k s n x) ≡ ok v) g.1 i.1)

begun_by : (k : ℕ) (s : Source) (n : List ℕ) (ps : List (List ℕ)) → AreNew [] ps → length ps ≤ most_names → method_by k s n (gather [] ps) ≡ ok (opened k s n ps)
begun_by k s n ps a l = ap (method_by k s n) (gathers ps [] a) ∙ ok_if (nat_lt most_names (length ps)) (errors.TooManyNames k) (ok (opened k s n ps)) (le-ltb most_names (length ps) l)

pub method_makes : (k : ℕ) (s u : Source) (n : List ℕ) (ps : List (List ℕ)) (b : Body) → s.place ≡ places.Outside → Build k s (section_lines (Method n ps b) []) u → MakesMethod k s n ps b u
method_makes k s u n ps b e (v, p, h, more) =
    let i = if_ok (is_declared s n) (errors.DuplicateName k) (method_by k s n (gather [] ps)) v h in
    let a = or_parts (is_some (names.place_of_name s.constants n)) (is_some (names.place_of_name s.methods n)) i.0 in
    let m = begins k s v n ps (gather [] ps) refl i.1 in
    let g : ok (opened k s n ps) ≡ ok v = m.2 in
    let q : opened k s n ps ≡ v = cc in
    let o = opens b.locals (k + 1) (opened k s n ps) u (map code_line b.code ++ (Dotted marks.EndMethod ∷ []))
    (subst (λ w. Build (k + 1) w (locals_lines b.locals (map code_line b.code ++ (Dotted marks.EndMethod ∷ []))) u) (sym q) more) in
    let c = opens_code b.locals (k + 1) (opened k s n ps) o.0 refl o.1 in
    let r = split (map code_line b.code) (Dotted marks.EndMethod ∷ []) (code_from (k + 1) b.locals) o.0 u o.2 in
    let l = if_ok (not (is_some r.0.unit.name) || r.0.unit.pending) (errors.BadLine (code_from (k + 1) b.locals + length (map code_line b.code))) (ok (ended r.0)) r.2.0 r.2.2 in
    let f : ok (ended r.0) ≡ ok r.2.0 = l.1 in
    let z : ended r.0 ≡ r.2.0 = cc in
    record {
      is_new = (None-if_not_some (names.place_of_name s.constants n) a.0, None-if_not_some (names.place_of_name s.methods n) a.1);
      once = m.0;
      few = m.1;
      last = r.0;
      content = record {
        after_locals = o.0;
        opens = o.1;
        makes = code_makes b.code (code_from (k + 1) b.locals) o.0 r.0 c.0 r.1;
        ready = (or_parts (not (is_some r.0.unit.name)) r.0.unit.pending l.0).1;
      };
      ends = sym (z ∙ r.2.3);
    }

pub makes_method : (k : ℕ) (s u : Source) (n : List ℕ) (ps : List (List ℕ)) (b : Body) → s.place ≡ places.Outside → MakesMethod k s n ps b u → Build k s (section_lines (Method n ps b) []) u
makes_method k s u n ps b e m =
    let w = m.last in
    let d = m.content in
    let c = opens_code b.locals (k + 1) (opened k s n ps) d.after_locals refl d.opens in
    let name : w.unit.name ≡ Some n = ap (λ x. x.unit.name) d.makes.1 ∙ c.1 in
    let at : w.place ≡ places.Code = ap (λ x. x.place) d.makes.1 ∙ c.0 in
    let j = code_from (k + 1) b.locals in
    let i = ok_if (is_declared s n) (errors.DuplicateName k) (method_by k s n (gather [] ps)) (or_from (is_some (names.place_of_name s.constants n)) (is_some (names.place_of_name s.methods n)) (ap is_some m.is_new.0) (ap is_some m.is_new.1)) in (
      opened k s n ps,
      e,
      i ∙ begun_by k s n ps m.once m.few,
      open_locals b.locals (k + 1) (opened k s n ps) d.after_locals u (map code_line b.code ++ (Dotted marks.EndMethod ∷ [])) refl refl d.opens
          (join (map code_line b.code) (Dotted marks.EndMethod ∷ []) j d.after_locals w u (makes_code b.code j d.after_locals w c.0 d.makes)
          (ended w, at, ok_if (not (is_some w.unit.name) || w.unit.pending) (errors.BadLine (j + length (map code_line b.code))) (ok (ended w)) (or_from (not (is_some w.unit.name)) w.unit.pending (ap (λ x. not (is_some x)) name) d.ready), sym m.ends)),
    )
