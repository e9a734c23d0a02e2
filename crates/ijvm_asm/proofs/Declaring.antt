-- What sections make of the reader's record is what they declare.
use Rattle.std.proofs.Common.{◌≡◌, ℕ, ◌+◌, true, false, List, [], ◌∷◌, ◌++◌, map, length, Option, Some, None, refl, ap, sym, subst, ◌∙◌, is_some, append-nil}
use Rattle.std.proofs.option.Match.{None-if_not_some}
use Rattle.ijvm_line.specs.declared.place.Place.TheVariants as places
use Rattle.ijvm_asm.specs.Prelude.{begun, DraftView, Between, Body, CodeItem, Constants, Locals, Main, Method, Section, section_lines, declarations_of, Source, AreLocals, AreNew, code_from, declared, labels_in, lines_in, locals_in, MakesUnit, positions_in, waits_after, Declarations, defined, SectionAdds, SectionsDeclare}
use Rattle.ijvm_asm.proofs.Made.{MakesBody, Makes, may_declare_after, OpensLocals, SectionsMake}
use Rattle.ijvm_asm.proofs.Mains.{main_ended, main_opened}
use Rattle.ijvm_asm.proofs.Methods.{ended, opened}
use Rattle.ijvm_asm.proofs.Kept.{body_keeps}

-- ---- a unit

-- the unit after its locals
abbrev with_locals : Option (List ℕ) → List (List ℕ) → Option Locals → DraftView
with_locals name ps o = record (begun name ps) { names = ps ++ locals_in o }

abbrev coded : ℕ → List (Option CodeItem) → DraftView → DraftView
coded j items u = record u {
  labels = u.labels ++ labels_in items;
  label_positions = u.label_positions ++ positions_in (length u.lines) items;
  lines = u.lines ++ lines_in j items;
  pending = waits_after u.pending items;
}

opens_is : (o : Option Locals) (k : ℕ) (s v : Source) (name : Option (List ℕ)) (ps : List (List ℕ)) → s.unit ≡ begun name ps → OpensLocals k s o v → AreLocals ps (locals_in o) × (v.unit ≡ with_locals name ps o)
opens_is None k s v name ps e q = (tt, ap (λ (w : Source). w.unit) (sym q) ∙ (e ∙ ap (λ (ns : List (List ℕ)). record (begun name ps) { names = ns }) (sym (append-nil ps))))
opens_is (Some d) k s v name ps e q = (
  subst (λ (u : DraftView). AreLocals u.names (declared d.names)) e q.0,
  ap (λ (w : Source). w.unit) q.1 ∙ ap (λ (u : DraftView). record u { names = u.names ++ declared d.names }) e,
)

body_is : (k : ℕ) (s t : Source) (name : Option (List ℕ)) (ps : List (List ℕ)) (b : Body) → s.unit ≡ begun name ps → MakesBody k s b t → MakesUnit k name ps b t.unit
body_is k s t name ps b e m =
    let j = code_from k b.locals in
    let o = opens_is b.locals k s m.after_locals name ps e m.opens in
    let is : t.unit ≡ coded j b.code (with_locals name ps b.locals) = ap (λ (w : Source). w.unit) m.makes.1 ∙ ap (coded j b.code) o.1 in
    let ready : waits_after false b.code ≡ false = sym (ap (λ (u : DraftView). u.pending) is) ∙ m.ready in
    record {
      locals = o.0;
      labels = subst (λ (u : DraftView). AreNew u.labels (labels_in b.code)) o.1 m.makes.0;
      ready = ready;
      is = is ∙ ap (λ p. record (coded j b.code (with_locals name ps b.locals)) { pending = p }) ready;
    }

opens_again : (o : Option Locals) (k : ℕ) (s : Source) (name : Option (List ℕ)) (ps : List (List ℕ)) → s.unit ≡ begun name ps → AreLocals ps (locals_in o) → (v : Source) × OpensLocals k s o v
opens_again None k s name ps e a = (s, refl)
opens_again (Some d) k s name ps e a = (
  record s { place = places.Code; inner = k + d.blank_lines; may_declare = false; unit = record s.unit { names = s.unit.names ++ declared d.names } },
  (subst (λ (u : DraftView). AreLocals u.names (declared d.names)) (sym e) a, refl),
)

body_again : (k : ℕ) (s : Source) (name : Option (List ℕ)) (ps : List (List ℕ)) (b : Body) (u : DraftView) → s.unit ≡ begun name ps → MakesUnit k name ps b u → (t : Source) × MakesBody k s b t × (t.unit ≡ u)
body_again k s name ps b u e is =
    let j = code_from k b.locals in
    let v = opens_again b.locals k s name ps e is.locals in
    let o = opens_is b.locals k s v.0 name ps e v.1 in
    let t : Source = record v.0 { may_declare = may_declare_after v.0.may_declare b.code; unit = coded j b.code v.0.unit } in
    let at : t.unit ≡ coded j b.code (with_locals name ps b.locals) = ap (coded j b.code) o.1 in (
      t,
      record {
        after_locals = v.0;
        opens = v.1;
        makes = (subst (λ (x : DraftView). AreNew x.labels (labels_in b.code)) (sym o.1) is.labels, refl);
        ready = ap (λ (x : DraftView). x.pending) at ∙ is.ready;
      },
      at ∙ (ap (λ p. record (coded j b.code (with_locals name ps b.locals)) { pending = p }) is.ready ∙ sym is.is),
    )

-- ---- a section

abbrev SeesMain : Source → Type 0
SeesMain s = s.seen_main ≡ is_some s.main

section_adds : (x : Section) (k : ℕ) (s u : Source) → SeesMain s → Makes k s x u → SectionAdds k (declarations_of s) x (declarations_of u) × SeesMain u
section_adds Between k s u e m = (ap declarations_of m, subst SeesMain m e)
section_adds (Constants items) k s u e (first, new, q) = (record { first = first; new = new; adds = ap declarations_of q }, subst SeesMain (sym q) e)
section_adds (Main b) k s u e m =
    let t = m.last in
    let d : declarations_of t ≡ declarations_of s = body_keeps declarations_of (λ w p n c v. refl) (k + 1) (main_opened k s) b t m.content in (
      record {
        first = None-if_not_some s.main (sym e ∙ m.first);
        unit = t.unit;
        is = body_is (k + 1) (main_opened k s) t None [] b refl m.content;
        adds = ap declarations_of m.ends ∙ ap (λ (x : Declarations). record x { main = Some t.unit }) d;
      },
      ap (λ (w : Source). w.seen_main) m.ends ∙ (body_keeps (λ w. w.seen_main) (λ w p n c v. refl) (k + 1) (main_opened k s) b t m.content ∙ sym (ap (λ (w : Source). is_some w.main) m.ends)),
    )
section_adds (Method name ps b) k s u e m =
    let t = m.last in
    let d : declarations_of t ≡ declarations_of (opened k s name ps) = body_keeps declarations_of (λ w p n c v. refl) (k + 1) (opened k s name ps) b t m.content in
    let seen : t.seen_main ≡ s.seen_main = body_keeps (λ w. w.seen_main) (λ w p n c v. refl) (k + 1) (opened k s name ps) b t m.content in
    let main : t.main ≡ s.main = body_keeps (λ w. w.main) (λ w p n c v. refl) (k + 1) (opened k s name ps) b t m.content in (
      record {
        new = m.is_new;
        once = m.once;
        few = m.few;
        unit = t.unit;
        is = body_is (k + 1) (opened k s name ps) t (Some name) ps b refl m.content;
        adds = ap declarations_of m.ends ∙ ap (λ (x : Declarations). record x { units = x.units ++ t.unit ∷ [] }) d;
      },
      subst SeesMain (sym m.ends) (seen ∙ (e ∙ sym (ap (λ (o : Option DraftView). is_some o) main))),
    )

section_again : (x : Section) (k : ℕ) (s : Source) (d : Declarations) → SeesMain s → SectionAdds k (declarations_of s) x d → (u : Source) × Makes k s x u × (declarations_of u ≡ d)
section_again Between k s d e a = (s, refl, a)
section_again (Constants items) k s d e a = (
  record s {
    place = places.Outside;
    section = k;
    seen_constants = true;
    constants = s.constants ++ map (λ c. c.name) (defined items);
    values = s.values ++ map (λ c. c.value) (defined items);
  },
  (a.first, a.new, refl),
  sym a.adds,
)
section_again (Main b) k s d e a =
    let r = body_again (k + 1) (main_opened k s) None [] b a.unit refl a.is in
    let t = r.0 in
    let c : declarations_of t ≡ declarations_of s = body_keeps declarations_of (λ w p n c v. refl) (k + 1) (main_opened k s) b t r.1 in (
      main_ended t,
      record { first = e ∙ ap (λ (o : Option DraftView). is_some o) a.first; last = t; content = r.1; ends = refl },
      ap (λ (x : Declarations). record x { main = Some t.unit }) c ∙ (ap (λ (v : DraftView). record (declarations_of s) { main = Some v }) r.2 ∙ sym a.adds),
    )
section_again (Method name ps b) k s d e a =
    let r = body_again (k + 1) (opened k s name ps) (Some name) ps b a.unit refl a.is in
    let t = r.0 in
    let c : declarations_of t ≡ declarations_of (opened k s name ps) = body_keeps declarations_of (λ w p n c v. refl) (k + 1) (opened k s name ps) b t r.1 in (
      ended t,
      record { is_new = a.new; once = a.once; few = a.few; last = t; content = r.1; ends = refl },
      ap (λ (x : Declarations). record x { units = x.units ++ t.unit ∷ [] }) c
          ∙ (ap (λ (v : DraftView). record (declarations_of s) { methods = s.methods ++ name ∷ []; units = s.units ++ v ∷ [] }) r.2 ∙ sym a.adds),
    )

-- ---- sections

pub sections_declare : (xs : List Section) (k : ℕ) (s t : Source) → s.seen_main ≡ is_some s.main → SectionsMake k s xs t → SectionsDeclare k (declarations_of s) xs (declarations_of t)
sections_declare [] k s t e m = ap declarations_of m
sections_declare (x ∷ xs) k s t e (u, m, more) =
    let a = section_adds x k s u e m in
    (declarations_of u, a.0, sections_declare xs (k + length (section_lines x [])) u t a.1 more)

pub declared_make : (xs : List Section) (k : ℕ) (s : Source) (d : Declarations) → s.seen_main ≡ is_some s.main → SectionsDeclare k (declarations_of s) xs d → (t : Source) × SectionsMake k s xs t × (declarations_of t ≡ d)
declared_make [] k s d e m = (s, refl, m)
declared_make (x ∷ xs) k s d e (c, a, more) =
    let r = section_again x k s c e a in
    let n = section_adds x k s r.0 e r.1 in
    let q = declared_make xs (k + length (section_lines x [])) r.0 d n.1 (subst (λ z. SectionsDeclare (k + length (section_lines x [])) z xs d) (sym r.2) more) in
    (q.0, (r.0, r.1, q.1), q.2)
