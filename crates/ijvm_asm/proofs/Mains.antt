-- The lines of main make what main says.
use Rattle.ijvm_asm.proofs.Common.{◌≡◌, ℕ, zero, suc, ◌+◌, true, false, List, [], ◌∷◌, ◌++◌, map, replicate, length, Option, Some, None, refl, ap, sym, subst}
use Rattle.ijvm_asm.proofs.Common.{◌∙◌, ◌||◌, not, is_some, append_assoc, or_parts, or_from, not_from_true}
use Rattle.ijvm_line.specs.declared.place.Mark.TheVariants as marks
use Rattle.ijvm_line.specs.declared.place.Place.TheVariants as places
use Rattle.ijvm_asm.specs.declared.error.AsmError.TheVariants as errors
use Rattle.ijvm_asm.specs.Prelude.{BlankAt, Dotted, Said, Body, code_line, local_line, Locals, locals_lines, Main, section_lines, begun, Source, code_from}
use Rattle.ijvm_asm.proofs.Made.{MakesMain, OpensLocals}
use Rattle.ijvm_asm.proofs.Building.{Build, join, moved, same, split}
use Rattle.ijvm_asm.proofs.Conditions.{if_ok, ok, ok_if}
use Rattle.ijvm_asm.proofs.Units.{code_makes, locals_make, make_locals, makes_code}

blanks_make : (n k : ℕ) (ys : List Said) (s u : Source) → Build k s (replicate n (BlankAt places.Code) ++ ys) u → Build (k + n) s ys u
blanks_make zero k ys s u b = subst (λ m. Build m s ys u) (sym (same k)) b
blanks_make (suc n) k ys s u (v, p, h, more) =
    let q : s ≡ v = cc in
    subst (λ m. Build m s ys u) (moved k n) (blanks_make n (k + 1) ys s u (subst (λ w. Build (k + 1) w (replicate n (BlankAt places.Code) ++ ys) u) (sym q) more))

make_blanks : (n k : ℕ) (ys : List Said) (s u : Source) → s.place ≡ places.Code → Build (k + n) s ys u → Build k s (replicate n (BlankAt places.Code) ++ ys) u
make_blanks zero k ys s u e b = subst (λ m. Build m s ys u) (same k) b
make_blanks (suc n) k ys s u e b = (s, e, refl, make_blanks n (k + 1) ys s u e (subst (λ m. Build m s ys u) (sym (moved k n)) b))

abbrev locals_end : Locals → List Said
locals_end d = map local_line d.names ++ (Dotted marks.EndLocals ∷ [])

abbrev in_locals : ℕ → Source → Source
in_locals k s = record s { place = places.Locals; inner = k; may_declare = false }

pub opens : (o : Option Locals) (k : ℕ) (s u : Source) (zs : List Said) → Build k s (locals_lines o zs) u → (v : Source) × OpensLocals k s o v × Build (code_from k o) v zs u
opens None k s u zs b = (s, refl, b)
opens (Some d) k s u zs b =
    let m = blanks_make d.blank_lines k (Dotted marks.BeginLocals ∷ (map local_line d.names ++ (Dotted marks.EndLocals ∷ zs))) s u b in
    let n = k + d.blank_lines in
    let g : ok (in_locals n s) ≡ ok m.0 = (if_ok (not s.may_declare) (errors.BadLine n) (ok (in_locals n s)) m.0 m.2).1 in
    let q : in_locals n s ≡ m.0 = cc in
    let more = subst (λ w. Build (n + 1) w (map local_line d.names ++ (Dotted marks.EndLocals ∷ zs)) u) (sym q) m.3 in
    let r = split (locals_end d) zs (n + 1) (in_locals n s) u (subst (λ ws. Build (n + 1) (in_locals n s) ws u) (sym (append_assoc (map local_line d.names) (Dotted marks.EndLocals ∷ []) zs)) more) in
    (r.0, locals_make d.names (n + 1) (in_locals n s) r.0 refl r.1, r.2)

pub open_locals : (o : Option Locals) (k : ℕ) (s v u : Source) (zs : List Said) → s.place ≡ places.Code → s.may_declare ≡ true → OpensLocals k s o v → Build (code_from k o) v zs u → Build k s (locals_lines o zs) u
open_locals None k s v u zs e m q b = subst (λ w. Build k w zs u) (sym q) b
open_locals (Some d) k s v u zs e m q b =
    let n = k + d.blank_lines in
    let more = subst (λ ws. Build (n + 1) (in_locals n s) ws u) (append_assoc (map local_line d.names) (Dotted marks.EndLocals ∷ []) zs)
    (join (locals_end d) zs (n + 1) (in_locals n s) v u (make_locals d.names (n + 1) (in_locals n s) v refl q) b) in
    make_blanks d.blank_lines k (Dotted marks.BeginLocals ∷ (map local_line d.names ++ (Dotted marks.EndLocals ∷ zs))) s u e
    (in_locals n s, e, ok_if (not s.may_declare) (errors.BadLine n) (ok (in_locals n s)) (not_from_true s.may_declare m), more)

-- where the code of a unit starts, and that its name stays
pub opens_code : (o : Option Locals) (k : ℕ) (s v : Source) → s.place ≡ places.Code → OpensLocals k s o v → (v.place ≡ places.Code) × (v.unit.name ≡ s.unit.name)
opens_code None k s v e q = (ap (λ w. w.place) (sym q) ∙ e, ap (λ w. w.unit.name) (sym q))
opens_code (Some d) k s v e q = (ap (λ w. w.place) q.1, ap (λ w. w.unit.name) q.1)

abbrev pub main_opened : ℕ → Source → Source
main_opened k s = record s { place = places.Code; section = k; may_declare = true; seen_main = true; unit = begun None [] }

abbrev pub main_ended : Source → Source
main_ended w = record w { place = places.Outside; unit = begun None []; main = Some w.unit }

pub main_makes : (k : ℕ) (s u : Source) (b : Body) → s.place ≡ places.Outside → Build k s (section_lines (Main b) []) u → MakesMain k s b u
main_makes k s u b e (v, p, h, more) =
    let i = if_ok s.seen_main (errors.BadLine k) (ok (main_opened k s)) v h in
    let g : ok (main_opened k s) ≡ ok v = i.1 in
    let q : main_opened k s ≡ v = cc in
    let o = opens b.locals (k + 1) (main_opened k s) u (map code_line b.code ++ (Dotted marks.EndMain ∷ []))
    (subst (λ w. Build (k + 1) w (locals_lines b.locals (map code_line b.code ++ (Dotted marks.EndMain ∷ []))) u) (sym q) more) in
    let c = opens_code b.locals (k + 1) (main_opened k s) o.0 refl o.1 in
    let r = split (map code_line b.code) (Dotted marks.EndMain ∷ []) (code_from (k + 1) b.locals) o.0 u o.2 in
    let l = if_ok (is_some r.0.unit.name || r.0.unit.pending) (errors.BadLine (code_from (k + 1) b.locals + length (map code_line b.code))) (ok (main_ended r.0)) r.2.0 r.2.2 in
    let f : ok (main_ended r.0) ≡ ok r.2.0 = l.1 in
    let z : main_ended r.0 ≡ r.2.0 = cc in
    record {
      first = i.0;
      last = r.0;
      content = record {
        after_locals = o.0;
        opens = o.1;
        makes = code_makes b.code (code_from (k + 1) b.locals) o.0 r.0 c.0 r.1;
        ready = (or_parts (is_some r.0.unit.name) r.0.unit.pending l.0).1;
      };
      ends = sym (z ∙ r.2.3);
    }

pub makes_main : (k : ℕ) (s u : Source) (b : Body) → s.place ≡ places.Outside → MakesMain k s b u → Build k s (section_lines (Main b) []) u
makes_main k s u b e m =
    let w = m.last in
    let d = m.content in
    let c = opens_code b.locals (k + 1) (main_opened k s) d.after_locals refl d.opens in
    let n : w.unit.name ≡ None = ap (λ x. x.unit.name) d.makes.1 ∙ c.1 in
    let at : w.place ≡ places.Code = ap (λ x. x.place) d.makes.1 ∙ c.0 in
    let j = code_from (k + 1) b.locals in (
      main_opened k s,
      e,
      ok_if s.seen_main (errors.BadLine k) (ok (main_opened k s)) m.first,
      open_locals b.locals (k + 1) (main_opened k s) d.after_locals u (map code_line b.code ++ (Dotted marks.EndMain ∷ [])) refl refl d.opens
          (join (map code_line b.code) (Dotted marks.EndMain ∷ []) j d.after_locals w u (makes_code b.code j d.after_locals w c.0 d.makes)
          (main_ended w, at, ok_if (is_some w.unit.name || w.unit.pending) (errors.BadLine (j + length (map code_line b.code))) (ok (main_ended w)) (or_from (is_some w.unit.name) w.unit.pending (ap is_some n) d.ready), sym m.ends)),
    )
